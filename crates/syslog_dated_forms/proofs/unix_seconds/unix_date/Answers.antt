use Rattle.syslog_dated_forms.proofs.Names.{◌past◌, ◌then◌, ◌∙◌, ap, inl, mapped_front, refl, Row, row_of, SentDate}
use Rattle.syslog_dated_forms.proofs.Names.{unix_of, unix_row, unread}
use Rattle.syslog_pieces.specs.declared.timestamp.fields.CivilFields.{CivilFields}
use Rattle.syslog_dated_forms.specs.UnixSeconds.{in_utc}
use Rattle.syslog_dated_forms.proofs.RowLemmas.{unix_row_det}
use Rattle.syslog_dated_forms.proofs.unix_seconds.unix_date.Goals as goal

pub returns-in_err-seconds : goal.returns-in_err-seconds
returns-in_err-seconds c =
    rw c.from_residual.ensures (unread unix_row unix_row_det SentDate unix_of (inl c.in_err-seconds.ensures))

pub returns-in_err-nanosecond : goal.returns-in_err-nanosecond
returns-in_err-nanosecond c = rw c.from_residual-in_err-nanosecond.ensures
    (unread unix_row unix_row_det SentDate unix_of
    (c.in_ok-seconds.ensures past inl c.in_err-nanosecond.ensures))

pub returns-in_err-shown : goal.returns-in_err-shown
returns-in_err-shown c = absurd c.in_err-shown.ensures

pub returns : goal.returns
returns c =
    rw (c.in_utc.ensures ∙ ap (λ (f : CivilFields). in_utc f c.in_ok-nanosecond.nanosecond) c.in_ok-shown.ensures)
    (mapped_front (Row unix_row) SentDate unix_of
    (row_of unix_row (c.in_ok-seconds.ensures then c.in_ok-nanosecond.ensures then refl)))
