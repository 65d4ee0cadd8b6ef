use Rattle.std.proofs.Common.{inl, refl}
use Rattle.syslog_text.proofs.PieceLemmas.Class.{◌past◌, ◌then◌, no_row, row_of}
use Rattle.syslog_sent.specs.Selector.{selector_row}
use Rattle.syslog_sent.proofs.NamedLemmas.{selector_det}
use Rattle.syslog_sent.proofs.selector.selector.Goals as goal

pub returns-in_err-after_facility : goal.returns-in_err-after_facility
returns-in_err-after_facility c =
    rw c.from_residual.ensures (no_row selector_row selector_det (inl c.in_err-after_facility.ensures))

pub returns-in_err-at_severity : goal.returns-in_err-at_severity
returns-in_err-at_severity c = rw c.from_residual-in_err-at_severity.ensures (no_row selector_row selector_det
    (c.in_ok-after_facility.ensures.1 past inl c.in_err-at_severity.ensures))

pub returns-in_err-rest : goal.returns-in_err-rest
returns-in_err-rest c = rw c.from_residual-in_err-rest.ensures (no_row selector_row selector_det
    (c.in_ok-after_facility.ensures.1 past c.in_ok-at_severity.ensures past inl c.in_err-rest.ensures))

pub returns : goal.returns
returns c = (
  _,
  row_of selector_row (c.in_ok-after_facility.ensures.1 then c.in_ok-at_severity.ensures
      then c.in_ok-rest.ensures then refl),
)
