use Rattle.syslog_dated_forms.proofs.Names.{mark_row}
use Rattle.syslog_dated_forms.proofs.ChainLemmas.{◌next◌, chain_row, end}
use Rattle.syslog_dated_forms.proofs.RowLemmas.{mark_row_det}
use Rattle.syslog_dated_forms.proofs.esxi.mark.Goals as goal

pub returns : goal.returns
returns c = chain_row {Cs = mark_row} {x = c.args.text} mark_row_det
    (c.level.ensures next c.and_then.ensures next c.and_then-2.ensures next c.and_then-3.ensures next end)
