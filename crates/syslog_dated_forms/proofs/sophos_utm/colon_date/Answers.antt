use Rattle.syslog_dated_forms.proofs.Names.{◌past◌, ◌then◌, colon_of, colon_row, inl, mapped_front, refl, Row, row_of}
use Rattle.syslog_dated_forms.proofs.Names.{SentDate, unread}
use Rattle.syslog_dated_forms.proofs.RowLemmas.{colon_row_det}
use Rattle.syslog_dated_forms.proofs.sophos_utm.colon_date.Goals as goal

pub returns-in_err-year : goal.returns-in_err-year
returns-in_err-year c = rw c.from_residual.ensures (unread colon_row colon_row_det SentDate colon_of
    (inl c.in_err-year.ensures))

pub returns-in_err-month : goal.returns-in_err-month
returns-in_err-month c = rw c.from_residual-in_err-month.ensures (unread colon_row colon_row_det SentDate colon_of
    (c.in_ok-year.ensures past inl c.in_err-month.ensures))

pub returns-in_err-day : goal.returns-in_err-day
returns-in_err-day c = rw c.from_residual-in_err-day.ensures (unread colon_row colon_row_det SentDate colon_of
    (c.in_ok-year.ensures past c.in_ok-month.ensures past inl c.in_err-day.ensures))

pub returns-in_err-hour : goal.returns-in_err-hour
returns-in_err-hour c = rw c.from_residual-in_err-hour.ensures (unread colon_row colon_row_det SentDate colon_of
    (c.in_ok-year.ensures past c.in_ok-month.ensures past c.in_ok-day.ensures past inl c.in_err-hour.ensures))

pub returns-in_err-minute : goal.returns-in_err-minute
returns-in_err-minute c = rw c.from_residual-in_err-minute.ensures (unread colon_row colon_row_det SentDate colon_of
    (c.in_ok-year.ensures past c.in_ok-month.ensures past c.in_ok-day.ensures past c.in_ok-hour.ensures past inl
    c.in_err-minute.ensures))

pub returns-in_err-second : goal.returns-in_err-second
returns-in_err-second c = rw c.from_residual-in_err-second.ensures (unread colon_row colon_row_det SentDate colon_of
    (c.in_ok-year.ensures past c.in_ok-month.ensures past c.in_ok-day.ensures past c.in_ok-hour.ensures past
    c.in_ok-minute.ensures past inl c.in_err-second.ensures))

pub returns : goal.returns
returns c = rw c.date_of.ensures (mapped_front (Row colon_row) SentDate colon_of (row_of colon_row
    (c.in_ok-year.ensures then c.in_ok-month.ensures then c.in_ok-day.ensures then c.in_ok-hour.ensures then
    c.in_ok-minute.ensures then c.in_ok-second.ensures then refl)))
