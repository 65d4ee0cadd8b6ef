use Rattle.syslog_dialects.proofs.Names.{◌past◌, ◌then◌, inl, match_map, no_row, refl, row_of, version_row}
use Rattle.syslog_dialects.proofs.PriorityAloneLemmas.{version_det}
use Rattle.syslog_dialects.proofs.priority_alone.past_version.Goals as goal

pub returns-in_err-rest : goal.returns-in_err-rest
returns-in_err-rest c = rw c.from_residual.ensures (no_row version_row version_det (inl c.in_err-rest.ensures))

pub returns : goal.returns
returns c = match_map c.some_blanks.result (λ n. no_row version_row version_det (c.in_ok-rest.ensures past inl n))
    (λ x f. (_, row_of version_row (c.in_ok-rest.ensures then f then refl))) c.some_blanks.ensures
