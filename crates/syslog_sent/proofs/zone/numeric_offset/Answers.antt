use Rattle.std.proofs.Common.{ℤ, FitsSigned, w32, inl, refl, rules}
use Rattle.std.proofs.lemmas.Int.{to_z-of_z}
use Rattle.syslog_text.proofs.PieceLemmas.Class.{◌past◌, ◌then◌, mapped_front, row_of}
use Rattle.syslog_text.specs.Pieces.Class.{Row}
use Rattle.syslog_pieces.specs.Timestamp.Rfc3339.{seconds_of}
use Rattle.syslog_sent.specs.Zone.{mapped_offset, offset_row}
use Rattle.syslog_sent.proofs.ZoneLemmas.{ended_front, no_offset, not_ended, seconds_det}
use Rattle.syslog_sent.proofs.zone.numeric_offset.Goals as goal

pub returns-in_err-is_behind : goal.returns-in_err-is_behind
returns-in_err-is_behind c = rw c.from_residual.ensures (no_offset (inl c.in_err-is_behind.ensures))

pub returns-in_err-hours : goal.returns-in_err-hours
returns-in_err-hours c = rw c.from_residual-in_err-hours.ensures
    (no_offset (c.in_ok-is_behind.ensures past inl c.in_err-hours.ensures))

pub returns-then-not-ends_word : goal.returns-then-not-ends_word
returns-then-not-ends_word c = not_ended mapped_offset seconds_det
    (mapped_front (Row offset_row) ℤ seconds_of (row_of offset_row
    (c.in_ok-is_behind.ensures then c.in_ok-hours.ensures then c.some_minutes-minutes.ensures.reads then refl)))
    c.if-not-ends_word.ensures

pub returns : goal.returns
returns c =
    let fits : FitsSigned w32 c.seconds.result = search rules in
    rw (to_z-of_z, c.seconds.ensures) (ended_front mapped_offset
    (mapped_front (Row offset_row) ℤ seconds_of (row_of offset_row
    (c.in_ok-is_behind.ensures then c.in_ok-hours.ensures then c.some_minutes-minutes.ensures.reads then refl)))
    c.if-not-ends_word.ensures)
