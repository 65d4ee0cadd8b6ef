use Rattle.syslog_dated_forms.proofs.Names.{◌past◌, ◌then◌, inl, meraki_row, refl, rest_front, row_of, says_once}
use Rattle.syslog_dated_forms.proofs.Names.{UnixSeconds}
use Rattle.syslog_dated_forms.specs.UnixSeconds.{meraki_sent}
use Rattle.syslog_dated_forms.proofs.RowLemmas.{meraki_row_det}
use Rattle.syslog_dated_forms.proofs.ChainLemmas.{undivided}
use Rattle.syslog_dated_forms.proofs.unix_seconds.read_meraki.Goals as goal

pub returns-in_err-after_version : goal.returns-in_err-after_version
returns-in_err-after_version c = rw c.from_residual.ensures (undivided meraki_row meraki_row_det (c.blanks.ensures
    past inl c.in_err-after_version.ensures))

pub returns-in_err-before_date : goal.returns-in_err-before_date
returns-in_err-before_date c = rw c.from_residual-in_err-before_date.ensures (undivided meraki_row meraki_row_det
    (c.blanks.ensures past c.in_ok-after_version.ensures past inl c.in_err-before_date.ensures))

pub returns-in_err-date : goal.returns-in_err-date
returns-in_err-date c = rw c.from_residual-in_err-date.ensures (undivided meraki_row meraki_row_det (c.blanks.ensures
    past c.in_ok-after_version.ensures past c.in_ok-before_date.ensures.1 past inl c.in_err-date.ensures))

pub returns-in_err-before_device : goal.returns-in_err-before_device
returns-in_err-before_device c = rw c.from_residual-in_err-before_device.ensures (undivided meraki_row meraki_row_det
    (c.blanks.ensures past c.in_ok-after_version.ensures past c.in_ok-before_date.ensures.1 past c.in_ok-date.ensures
    past inl c.in_err-before_device.ensures))

pub returns-in_err-device : goal.returns-in_err-device
returns-in_err-device c = rw c.from_residual-in_err-device.ensures (undivided meraki_row meraki_row_det
    (c.blanks.ensures past c.in_ok-after_version.ensures past c.in_ok-before_date.ensures.1 past c.in_ok-date.ensures
    past c.in_ok-before_device.ensures.1 past inl c.in_err-device.ensures))

pub returns-in_err-msg : goal.returns-in_err-msg
returns-in_err-msg c = rw c.from_residual-in_err-msg.ensures (undivided meraki_row meraki_row_det (c.blanks.ensures
    past c.in_ok-after_version.ensures past c.in_ok-before_date.ensures.1 past c.in_ok-date.ensures
    past c.in_ok-before_device.ensures.1 past c.in_ok-device.ensures past inl c.in_err-msg.ensures))

pub returns : goal.returns
returns c = says_once UnixSeconds meraki_row meraki_sent meraki_row_det (row_of meraki_row
    (c.blanks.ensures then c.in_ok-after_version.ensures then c.in_ok-before_date.ensures.1 then
    c.in_ok-date.ensures then c.in_ok-before_device.ensures.1 then c.in_ok-device.ensures then
    c.in_ok-msg.ensures.1 then rest_front _ then refl)) refl
