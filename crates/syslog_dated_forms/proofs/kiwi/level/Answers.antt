use Rattle.syslog_dated_forms.proofs.Names.{level_row}
use Rattle.syslog_dated_forms.proofs.RowLemmas.{level_row_det}
use Rattle.syslog_dated_forms.proofs.ChainLemmas.{◌next◌, chain_row, end}
use Rattle.syslog_dated_forms.proofs.kiwi.level.Goals as goal

pub returns : goal.returns
returns c = chain_row {Cs = level_row} {x = c.args.text} level_row_det
    (c.tab.ensures next c.and_then.ensures next c.and_then-2.ensures next c.and_then-3.ensures next
    c.and_then-4.ensures next end)
