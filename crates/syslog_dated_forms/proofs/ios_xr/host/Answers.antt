use Rattle.syslog_dated_forms.proofs.Names.{◌past◌, ◌then◌, host_row, inl, mapped_front, refl, Row, row_of, Text}
use Rattle.syslog_dated_forms.proofs.Names.{unread}
use Rattle.syslog_dated_forms.proofs.RowLemmas.{host_row_det}
use Rattle.syslog_dated_forms.proofs.ios_xr.host.Goals as goal

pub returns-in_err-name : goal.returns-in_err-name
returns-in_err-name c = rw c.from_residual.ensures (unread host_row host_row_det Text (λ v. v.0) (inl
    c.in_err-name.ensures))

pub returns-in_err-rest : goal.returns-in_err-rest
returns-in_err-rest c = rw c.from_residual-in_err-rest.ensures (unread host_row host_row_det Text (λ v. v.0)
    (c.in_ok-name.ensures past inl c.in_err-rest.ensures))

pub returns : goal.returns
returns c = mapped_front (Row host_row) Text (λ v. v.0)
    (row_of host_row (c.in_ok-name.ensures then c.in_ok-rest.ensures.1 then refl))
