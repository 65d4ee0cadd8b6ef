use Rattle.syslog_dated_forms.proofs.Names.{◌past◌, ◌then◌, dated_in, inl, mapped_front, refl, Row, row_of, SentDate}
use Rattle.syslog_dated_forms.proofs.Names.{Some, unread, year_date_row}
use Rattle.syslog_dated_forms.proofs.RowLemmas.{year_date_det}
use Rattle.syslog_dated_forms.proofs.dated.year_date.Goals as goal

pub returns-in_err-year : goal.returns-in_err-year
returns-in_err-year c = rw c.from_residual.ensures (unread year_date_row year_date_det SentDate (λ v. dated_in (Some
    v.0) v.1.0) (inl c.in_err-year.ensures))

pub returns-in_err-date : goal.returns-in_err-date
returns-in_err-date c = rw c.from_residual-in_err-date.ensures (unread year_date_row year_date_det SentDate (λ v.
    dated_in (Some v.0) v.1.0) (c.in_ok-year.ensures past inl c.in_err-date.ensures))

pub returns : goal.returns
returns c = rw c.dated_in.ensures (mapped_front (Row year_date_row) SentDate (λ v. dated_in (Some v.0) v.1.0)
    (row_of year_date_row (c.in_ok-year.ensures then c.in_ok-date.ensures then refl)))
