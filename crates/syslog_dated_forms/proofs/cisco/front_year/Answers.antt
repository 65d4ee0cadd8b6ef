use Rattle.syslog_dated_forms.proofs.Names.{◌past◌, ◌then◌, front_year_row, inl, mapped_front, refl, Row, row_of}
use Rattle.syslog_dated_forms.proofs.Names.{unread, ℕ}
use Rattle.syslog_dated_forms.proofs.CiscoLemmas.{front_year_row_det}
use Rattle.syslog_dated_forms.proofs.cisco.front_year.Goals as goal

pub returns-in_err-rest : goal.returns-in_err-rest
returns-in_err-rest c = rw c.from_residual-in_err-rest.ensures (unread front_year_row front_year_row_det ℕ (λ v. v.0)
    (c.in_ok-year.ensures past inl c.in_err-rest.ensures))

pub returns : goal.returns
returns c = mapped_front (Row front_year_row) ℕ (λ v. v.0)
    (row_of front_year_row (c.in_ok-year.ensures then c.in_ok-rest.ensures.1 then refl))
