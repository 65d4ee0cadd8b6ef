use Rattle.syslog_dated_forms.proofs.Names.{◌past◌, ◌then◌, half_row, inl, mapped_front, refl, Row, row_of, SentDate}
use Rattle.syslog_dated_forms.proofs.Names.{unread}
use Rattle.syslog_dated_forms.proofs.RowLemmas.{half_row_det}
use Rattle.syslog_dated_forms.specs.Ucm.{half_of}
use Rattle.syslog_dated_forms.proofs.ucm.half_date.Goals as goal

pub returns-in_err-date : goal.returns-in_err-date
returns-in_err-date c = rw c.from_residual.ensures (unread half_row half_row_det SentDate half_of
    (inl c.in_err-date.ensures))

pub returns-in_err-is_late : goal.returns-in_err-is_late
returns-in_err-is_late c = rw c.from_residual-in_err-is_late.ensures (unread half_row half_row_det SentDate half_of
    (c.in_ok-date.ensures past inl c.in_err-is_late.ensures))

pub returns : goal.returns
returns c = rw c.date_of.ensures (mapped_front (Row half_row) SentDate half_of (row_of half_row (c.in_ok-date.ensures
    then c.in_ok-is_late.ensures then c.optional_fraction-nanosecond.ensures then c.optional_zone-zone.ensures
    then refl)))
