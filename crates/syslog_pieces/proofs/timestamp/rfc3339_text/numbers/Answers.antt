use Rattle.syslog_pieces.proofs.Names.{inl, ◌past◌, ◌then◌, refl, FitsSigned, w32, rules, to_z-of_z, stamp_row, row_of}
use Rattle.syslog_pieces.proofs.TimestampLemmas.Rfc3339.{no_stamp_text, stamp_text_front}
use Rattle.syslog_pieces.proofs.timestamp.rfc3339_text.numbers.Goals as goal

pub returns-in_err-month : goal.returns-in_err-month
returns-in_err-month c =
    rw c.from_residual-in_err-month.ensures (no_stamp_text (c.in_ok-year.ensures past inl c.in_err-month.ensures))

pub returns-in_err-day : goal.returns-in_err-day
returns-in_err-day c =
    rw c.from_residual-in_err-day.ensures (no_stamp_text (c.in_ok-year.ensures past c.in_ok-month.ensures past inl
    c.in_err-day.ensures))

pub returns-in_err-rest : goal.returns-in_err-rest
returns-in_err-rest c =
    rw c.from_residual-in_err-rest.ensures (no_stamp_text (c.in_ok-year.ensures past c.in_ok-month.ensures past
    c.in_ok-day.ensures past inl c.in_err-rest.ensures))

pub returns-in_err-hour : goal.returns-in_err-hour
returns-in_err-hour c =
    rw c.from_residual-in_err-hour.ensures (no_stamp_text (c.in_ok-year.ensures past c.in_ok-month.ensures past
    c.in_ok-day.ensures past c.in_ok-rest.ensures past inl c.in_err-hour.ensures))

pub returns-in_err-minute : goal.returns-in_err-minute
returns-in_err-minute c =
    rw c.from_residual-in_err-minute.ensures (no_stamp_text (c.in_ok-year.ensures past c.in_ok-month.ensures past
    c.in_ok-day.ensures past c.in_ok-rest.ensures past c.in_ok-hour.ensures past inl c.in_err-minute.ensures))

pub returns-in_err-second : goal.returns-in_err-second
returns-in_err-second c =
    rw c.from_residual-in_err-second.ensures (no_stamp_text (c.in_ok-year.ensures past c.in_ok-month.ensures past
    c.in_ok-day.ensures past c.in_ok-rest.ensures past c.in_ok-hour.ensures past c.in_ok-minute.ensures past inl
    c.in_err-second.ensures))

pub returns-in_err-nanosecond : goal.returns-in_err-nanosecond
returns-in_err-nanosecond c =
    rw c.from_residual-in_err-nanosecond.ensures (no_stamp_text (c.in_ok-year.ensures past c.in_ok-month.ensures past
    c.in_ok-day.ensures past c.in_ok-rest.ensures past c.in_ok-hour.ensures past c.in_ok-minute.ensures past
    c.in_ok-second.ensures past inl c.in_err-nanosecond.ensures))

pub returns-in_err-offset : goal.returns-in_err-offset
returns-in_err-offset c =
    rw c.from_residual-in_err-offset.ensures (no_stamp_text (c.in_ok-year.ensures past c.in_ok-month.ensures past
    c.in_ok-day.ensures past c.in_ok-rest.ensures past c.in_ok-hour.ensures past c.in_ok-minute.ensures past
    c.in_ok-second.ensures past c.in_ok-nanosecond.ensures past inl c.in_err-offset.ensures))

pub returns : goal.returns
returns c =
    let fits : FitsSigned w32 c.in_ok-offset.offset = search rules in
    rw to_z-of_z (stamp_text_front (row_of stamp_row (c.in_ok-year.ensures then c.in_ok-month.ensures
    then c.in_ok-day.ensures then c.in_ok-rest.ensures then c.in_ok-hour.ensures then c.in_ok-minute.ensures
    then c.in_ok-second.ensures then c.in_ok-nanosecond.ensures then c.in_ok-offset.ensures then refl)))
