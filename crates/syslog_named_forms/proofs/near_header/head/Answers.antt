use Rattle.syslog_named_forms.proofs.Names.{◌past◌, ◌then◌, head_row, inl, no_row, refl, row_of}
use Rattle.syslog_named_forms.proofs.NearHeaderLemmas.{head_det}
use Rattle.syslog_named_forms.proofs.near_header.head.Goals as goal

pub returns-in_err-version : goal.returns-in_err-version
returns-in_err-version c = rw c.from_residual.ensures (no_row head_row head_det
    (inl c.in_err-version.ensures))

pub returns-in_err-at_date : goal.returns-in_err-at_date
returns-in_err-at_date c = rw c.from_residual-in_err-at_date.ensures (no_row head_row head_det
    (c.in_ok-version.ensures past inl c.in_err-at_date.ensures))

pub returns-in_err-date : goal.returns-in_err-date
returns-in_err-date c = rw c.from_residual-in_err-date.ensures (no_row head_row head_det
    (c.in_ok-version.ensures past c.in_ok-at_date.ensures past inl c.in_err-date.ensures))

pub returns-in_err-at_host : goal.returns-in_err-at_host
returns-in_err-at_host c = rw c.from_residual-in_err-at_host.ensures (no_row head_row head_det
    (c.in_ok-version.ensures past c.in_ok-at_date.ensures past c.in_ok-date.ensures past inl c.in_err-at_host.ensures))

pub returns-in_err-hostname : goal.returns-in_err-hostname
returns-in_err-hostname c = rw c.from_residual-in_err-hostname.ensures (no_row head_row head_det
    (c.in_ok-version.ensures past c.in_ok-at_date.ensures past c.in_ok-date.ensures past c.in_ok-at_host.ensures past
    inl c.in_err-hostname.ensures))

pub returns-in_err-rest : goal.returns-in_err-rest
returns-in_err-rest c = rw c.from_residual-in_err-rest.ensures (no_row head_row head_det
    (c.in_ok-version.ensures past c.in_ok-at_date.ensures past c.in_ok-date.ensures past c.in_ok-at_host.ensures past
    c.in_ok-hostname.ensures past inl c.in_err-rest.ensures))

pub returns : goal.returns
returns c = row_of head_row (c.in_ok-version.ensures then c.in_ok-at_date.ensures then c.in_ok-date.ensures then
    c.in_ok-at_host.ensures then c.in_ok-hostname.ensures then c.in_ok-rest.ensures then refl)
