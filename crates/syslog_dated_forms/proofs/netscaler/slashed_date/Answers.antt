use Rattle.syslog_dated_forms.proofs.Names.{◌past◌, ◌then◌, inl, mapped_front, refl, Row, row_of, SentDate, slashed_of}
use Rattle.syslog_dated_forms.proofs.Names.{slashed_row, unread}
use Rattle.syslog_dated_forms.proofs.RowLemmas.{slashed_row_det}
use Rattle.syslog_dated_forms.proofs.netscaler.slashed_date.Goals as goal

pub returns-in_err-day : goal.returns-in_err-day
returns-in_err-day c = rw c.from_residual.ensures (unread slashed_row slashed_row_det SentDate slashed_of
    (inl c.in_err-day.ensures))

pub returns-in_err-hour : goal.returns-in_err-hour
returns-in_err-hour c = rw c.from_residual-in_err-hour.ensures (unread slashed_row slashed_row_det SentDate slashed_of
    (c.in_ok-day.ensures past inl c.in_err-hour.ensures))

pub returns-in_err-minute : goal.returns-in_err-minute
returns-in_err-minute c = rw c.from_residual-in_err-minute.ensures (unread slashed_row slashed_row_det SentDate
    slashed_of (c.in_ok-day.ensures past c.in_ok-hour.ensures past inl c.in_err-minute.ensures))

pub returns-in_err-second : goal.returns-in_err-second
returns-in_err-second c = rw c.from_residual-in_err-second.ensures (unread slashed_row slashed_row_det SentDate
    slashed_of (c.in_ok-day.ensures past c.in_ok-hour.ensures past c.in_ok-minute.ensures
    past inl c.in_err-second.ensures))

pub returns : goal.returns
returns c = rw c.slashed_of.ensures (mapped_front (Row slashed_row) SentDate slashed_of (row_of slashed_row
    (c.in_ok-day.ensures then c.in_ok-hour.ensures then c.in_ok-minute.ensures then c.in_ok-second.ensures
    then c.optional_zone-zone.ensures then refl)))
