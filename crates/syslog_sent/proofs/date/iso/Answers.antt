use Rattle.std.proofs.Common.{inl, refl}
use Rattle.syslog_text.proofs.PieceLemmas.Class.{◌past◌, ◌then◌, no_row, row_of}
use Rattle.syslog_sent.specs.Date.{iso_row}
use Rattle.syslog_sent.proofs.DateLemmas.{iso_det}
use Rattle.syslog_sent.proofs.date.iso.Goals as goal

pub returns-in_err-year : goal.returns-in_err-year
returns-in_err-year c = rw c.from_residual.ensures (no_row iso_row iso_det
    (inl c.in_err-year.ensures))

pub returns-in_err-month : goal.returns-in_err-month
returns-in_err-month c = rw c.from_residual-in_err-month.ensures (no_row iso_row iso_det
    (c.in_ok-year.ensures past inl c.in_err-month.ensures))

pub returns-in_err-day : goal.returns-in_err-day
returns-in_err-day c = rw c.from_residual-in_err-day.ensures (no_row iso_row iso_det
    (c.in_ok-year.ensures past c.in_ok-month.ensures past inl c.in_err-day.ensures))

pub returns-in_err-rest : goal.returns-in_err-rest
returns-in_err-rest c = rw c.from_residual-in_err-rest.ensures (no_row iso_row iso_det
    (c.in_ok-year.ensures past c.in_ok-month.ensures past c.in_ok-day.ensures past inl c.in_err-rest.ensures))

pub returns-in_err-hour : goal.returns-in_err-hour
returns-in_err-hour c = rw c.from_residual-in_err-hour.ensures (no_row iso_row iso_det
    (c.in_ok-year.ensures past c.in_ok-month.ensures past c.in_ok-day.ensures past c.in_ok-rest.ensures past inl
    c.in_err-hour.ensures))

pub returns-in_err-minute : goal.returns-in_err-minute
returns-in_err-minute c = rw c.from_residual-in_err-minute.ensures (no_row iso_row iso_det
    (c.in_ok-year.ensures past c.in_ok-month.ensures past c.in_ok-day.ensures past c.in_ok-rest.ensures past
    c.in_ok-hour.ensures past inl c.in_err-minute.ensures))

pub returns-in_err-second : goal.returns-in_err-second
returns-in_err-second c = rw c.from_residual-in_err-second.ensures (no_row iso_row iso_det
    (c.in_ok-year.ensures past c.in_ok-month.ensures past c.in_ok-day.ensures past c.in_ok-rest.ensures past
    c.in_ok-hour.ensures past c.in_ok-minute.ensures past inl c.in_err-second.ensures))

pub returns : goal.returns
returns c = row_of iso_row (c.in_ok-year.ensures then c.in_ok-month.ensures then c.in_ok-day.ensures then
    c.in_ok-rest.ensures
    then c.in_ok-hour.ensures then c.in_ok-minute.ensures then c.in_ok-second.ensures then
    c.optional_fraction-nanosecond.ensures
    then c.optional_zone-zone.ensures then refl)
