use Rattle.syslog_dated_forms.proofs.Names.{task_row}
use Rattle.syslog_dated_forms.proofs.CiscoLemmas.{task_row_det}
use Rattle.syslog_dated_forms.proofs.ChainLemmas.{◌next◌, chain_row, end}
use Rattle.syslog_dated_forms.proofs.cisco.task.Goals as goal

pub returns : goal.returns
returns c = chain_row {Cs = task_row} {x = c.args.text} task_row_det
    (c.star.ensures next c.and_then.ensures next c.and_then-2.ensures next c.and_then-3.ensures next end)
