use Rattle.syslog_named_forms.proofs.Names.{day_row, no_row_division}
use Rattle.syslog_named_forms.proofs.PairLemmas.{day_det, not_whole, whole_is}
use Rattle.syslog_named_forms.proofs.pairs.whole_day.Goals as goal

pub returns-in_err-day : goal.returns-in_err-day
returns-in_err-day c = rw c.from_residual.ensures (no_row_division day_row c.in_err-day.ensures)

pub returns-in-Some : goal.returns-in-Some
returns-in-Some c = not_whole day_row day_det c.in_ok-day.ensures c.in-Some.ensures.0

pub returns-in-None : goal.returns-in-None
returns-in-None c = whole_is day_row c.in_ok-day.ensures c.in-None.ensures
