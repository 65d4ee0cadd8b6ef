use Rattle.syslog_dated_forms.proofs.Names.{◌past◌, ◌then◌, day_row, inl, refl, Row, row_of, stamp_row}
use Rattle.syslog_dated_forms.proofs.InBracketsLemmas.{not_whole, stamp_row_det, whole_is}
use Rattle.syslog_dated_forms.proofs.ChainLemmas.{undivided}
use Rattle.syslog_dated_forms.proofs.ReaderLemmas.{skipped}
use Rattle.syslog_dated_forms.proofs.in_brackets.whole_date.Goals as goal

pub returns-in_err-date : goal.returns-in_err-date
returns-in_err-date c = rw c.from_residual.ensures (undivided stamp_row stamp_row_det ((skipped (Row day_row) _ _
    c.past_any.ensures).1 past inl c.in_err-date.ensures))

pub returns-in-Some : goal.returns-in-Some
returns-in-Some c = not_whole (row_of stamp_row ((skipped (Row day_row) _ _ c.past_any.ensures).1
    then c.in_ok-date.ensures then refl)) c.in-Some.ensures.0

pub returns-in-None : goal.returns-in-None
returns-in-None c = (
  _,
  whole_is (row_of stamp_row ((skipped (Row day_row) _ _ c.past_any.ensures).1
      then c.in_ok-date.ensures then refl)) c.in-None.ensures,
  refl,
)
