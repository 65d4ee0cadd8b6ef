use Rattle.syslog_dated_forms.proofs.Names.{◌past◌, ◌then◌, beginning_front, inl, no_beginning, refl, row_of, says_once}
use Rattle.syslog_dated_forms.proofs.Names.{typed_row, UnixSeconds}
use Rattle.syslog_dated_forms.specs.UnixSeconds.{typed_sent}
use Rattle.syslog_dated_forms.proofs.RowLemmas.{typed_row_det}
use Rattle.syslog_dated_forms.proofs.ChainLemmas.{undivided}
use Rattle.syslog_dated_forms.proofs.unix_seconds.read_typed.Goals as goal

pub returns-in_err-date : goal.returns-in_err-date
returns-in_err-date c = rw c.from_residual.ensures (undivided typed_row typed_row_det (c.blanks.ensures past inl
    c.in_err-date.ensures))

pub returns-in_err-before_device : goal.returns-in_err-before_device
returns-in_err-before_device c = rw c.from_residual-in_err-before_device.ensures (undivided typed_row typed_row_det
    (c.blanks.ensures past c.in_ok-date.ensures past inl c.in_err-before_device.ensures))

pub returns-in_err-device : goal.returns-in_err-device
returns-in_err-device c = rw c.from_residual-in_err-device.ensures (undivided typed_row typed_row_det (c.blanks.ensures
    past c.in_ok-date.ensures past c.in_ok-before_device.ensures.1 past inl c.in_err-device.ensures))

pub returns-in_err-msg : goal.returns-in_err-msg
returns-in_err-msg c = rw c.from_residual-in_err-msg.ensures (undivided typed_row typed_row_det (c.blanks.ensures
    past c.in_ok-date.ensures past c.in_ok-before_device.ensures.1 past c.in_ok-device.ensures past inl
    c.in_err-msg.ensures))

pub returns-in_err-event_type : goal.returns-in_err-event_type
returns-in_err-event_type c = rw c.from_residual-in_err-event_type.ensures (undivided typed_row typed_row_det
    (c.blanks.ensures past c.in_ok-date.ensures past c.in_ok-before_device.ensures.1 past c.in_ok-device.ensures
    past c.in_ok-msg.ensures.1 past inl (no_beginning c.in_err-event_type.ensures)))

pub returns : goal.returns
returns c = says_once UnixSeconds typed_row typed_sent typed_row_det (row_of typed_row
    (c.blanks.ensures then c.in_ok-date.ensures then c.in_ok-before_device.ensures.1 then c.in_ok-device.ensures then
    c.in_ok-msg.ensures.1 then beginning_front c.in_ok-event_type.ensures.1 then refl)) refl
