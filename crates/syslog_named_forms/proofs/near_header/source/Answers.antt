use Rattle.syslog_named_forms.proofs.Names.{◌past◌, ◌then◌, inl, no_row, refl, row_of, source_row}
use Rattle.syslog_named_forms.proofs.NearHeaderLemmas.{source_det}
use Rattle.syslog_named_forms.proofs.near_header.source.Goals as goal

pub returns-in_err-appname : goal.returns-in_err-appname
returns-in_err-appname c = rw c.from_residual.ensures (no_row source_row source_det
    (inl c.in_err-appname.ensures))

pub returns-in_err-at_process : goal.returns-in_err-at_process
returns-in_err-at_process c = rw c.from_residual-in_err-at_process.ensures (no_row source_row source_det
    (c.in_ok-appname.ensures past inl c.in_err-at_process.ensures))

pub returns-in_err-process : goal.returns-in_err-process
returns-in_err-process c = rw c.from_residual-in_err-process.ensures (no_row source_row source_det
    (c.in_ok-appname.ensures past c.in_ok-at_process.ensures past inl c.in_err-process.ensures))

pub returns-in_err-rest : goal.returns-in_err-rest
returns-in_err-rest c = rw c.from_residual-in_err-rest.ensures (no_row source_row source_det
    (c.in_ok-appname.ensures past c.in_ok-at_process.ensures past c.in_ok-process.ensures past
    inl c.in_err-rest.ensures))

pub returns : goal.returns
returns c = row_of source_row (c.in_ok-appname.ensures then c.in_ok-at_process.ensures then
    c.in_ok-process.ensures then c.in_ok-rest.ensures then refl)
