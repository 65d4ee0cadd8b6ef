use Rattle.syslog_dated_forms.proofs.Names.{◌past◌, ◌then◌, inl, label_row, mapped_front, refl, Row, row_of, Text}
use Rattle.syslog_dated_forms.proofs.Names.{unread}
use Rattle.syslog_dated_forms.proofs.CiscoLemmas.{label_row_det}
use Rattle.syslog_dated_forms.proofs.cisco.label.Goals as goal

pub returns-in_err-host : goal.returns-in_err-host
returns-in_err-host c = rw c.from_residual.ensures (unread label_row label_row_det Text (λ v. v.0) (inl
    c.in_err-host.ensures))

pub returns-in_err-rest : goal.returns-in_err-rest
returns-in_err-rest c = rw c.from_residual-in_err-rest.ensures (unread label_row label_row_det Text (λ v. v.0)
    (c.in_ok-host.ensures past inl c.in_err-rest.ensures))

pub returns-in_err-rest-2 : goal.returns-in_err-rest-2
returns-in_err-rest-2 c = rw c.from_residual-in_err-rest-2.ensures (unread label_row label_row_det Text (λ v. v.0)
    (c.in_ok-host.ensures past c.in_ok-rest.ensures.1 past inl c.in_err-rest-2.ensures))

pub returns : goal.returns
returns c = mapped_front (Row label_row) Text (λ v. v.0)
    (row_of label_row (c.in_ok-host.ensures then c.in_ok-rest.ensures.1 then c.in_ok-rest-2.ensures.1 then refl))
