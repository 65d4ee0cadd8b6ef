use Rattle.syslog_named_forms.proofs.Names.{◌past◌, ◌then◌, inl, no_row, no_row_division, offset_row, refl, row_of}
use Rattle.std.proofs.Common.{rules, FitsSigned, w32}
use Rattle.std.proofs.lemmas.Int.{to_z-of_z}
use Rattle.syslog_named_forms.proofs.PairLemmas.{offset_det, not_whole, whole_is}
use Rattle.syslog_named_forms.proofs.pairs.read_offset.Goals as goal

pub returns-in_err-is_behind : goal.returns-in_err-is_behind
returns-in_err-is_behind c = rw c.from_residual.ensures
    (no_row_division offset_row (no_row offset_row offset_det (inl c.in_err-is_behind.ensures)))

pub returns-in_err-hours : goal.returns-in_err-hours
returns-in_err-hours c = rw c.from_residual-in_err-hours.ensures
    (no_row_division offset_row (no_row offset_row offset_det
    (c.in_ok-is_behind.ensures past inl c.in_err-hours.ensures)))

pub returns-in_err-minutes : goal.returns-in_err-minutes
returns-in_err-minutes c = rw c.from_residual-in_err-minutes.ensures
    (no_row_division offset_row (no_row offset_row offset_det (c.in_ok-is_behind.ensures past c.in_ok-hours.ensures
    past inl c.in_err-minutes.ensures)))

pub returns-in-Some : goal.returns-in-Some
returns-in-Some c = not_whole offset_row offset_det
    (row_of offset_row (c.in_ok-is_behind.ensures then c.in_ok-hours.ensures
    then c.in_ok-minutes.ensures then refl)) c.in-Some.ensures.0

pub returns-in-None : goal.returns-in-None
returns-in-None c = let fits : FitsSigned w32 c.offset_seconds.result = search rules in rw to_z-of_z (
  _,
  whole_is offset_row (row_of offset_row (c.in_ok-is_behind.ensures then c.in_ok-hours.ensures
      then c.in_ok-minutes.ensures then refl)) c.in-None.ensures,
  c.offset_seconds.ensures,
)
