use Rattle.syslog_named_forms.proofs.Names.{clock_row, no_row_division}
use Rattle.syslog_named_forms.proofs.PairLemmas.{clock_det, not_whole, whole_is}
use Rattle.syslog_named_forms.proofs.pairs.whole_clock.Goals as goal

pub returns-in_err-clock : goal.returns-in_err-clock
returns-in_err-clock c = rw c.from_residual.ensures (no_row_division clock_row c.in_err-clock.ensures)

pub returns-in-Some : goal.returns-in-Some
returns-in-Some c = not_whole clock_row clock_det c.in_ok-clock.ensures c.in-Some.ensures.0

pub returns-in-None : goal.returns-in-None
returns-in-None c = whole_is clock_row c.in_ok-clock.ensures c.in-None.ensures
