use Rattle.syslog_dated_forms.proofs.Names.{unit_row}
use Rattle.syslog_dated_forms.proofs.CiscoLemmas.{unit_row_det}
use Rattle.syslog_dated_forms.proofs.ChainLemmas.{◌next◌, chain_row, end}
use Rattle.syslog_dated_forms.proofs.cisco.unit_end.Goals as goal

pub returns : goal.returns
returns c = chain_row {Cs = unit_row} {x = c.args.text} unit_row_det
    (c.percent.ensures next c.and_then.ensures next end)
