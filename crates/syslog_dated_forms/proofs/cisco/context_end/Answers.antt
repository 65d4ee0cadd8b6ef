use Rattle.syslog_dated_forms.proofs.Names.{context_row}
use Rattle.syslog_dated_forms.proofs.CiscoLemmas.{context_row_det}
use Rattle.syslog_dated_forms.proofs.ChainLemmas.{◌next◌, chain_row, end}
use Rattle.syslog_dated_forms.proofs.cisco.context_end.Goals as goal

pub returns : goal.returns
returns c = chain_row {Cs = context_row} {x = c.args.text} context_row_det
    (c.dollar.ensures next c.and_then.ensures next c.and_then-2.ensures next c.and_then-3.ensures next
    c.and_then-4.ensures next c.and_then-5.ensures next c.and_then-6.ensures next end)
