use Rattle.syslog_dated_forms.proofs.Names.{dell_row}
use Rattle.syslog_dated_forms.proofs.CiscoLemmas.{dell_row_det}
use Rattle.syslog_dated_forms.proofs.ChainLemmas.{◌next◌, chain_row, end}
use Rattle.syslog_dated_forms.proofs.cisco.dell_end.Goals as goal

pub returns : goal.returns
returns c = chain_row {Cs = dell_row} {x = c.args.text} dell_row_det
    (c.plain_word.ensures next c.and_then.ensures next c.and_then-2.ensures next c.and_then-3.ensures next end)
