use Rattle.std.proofs.Common.{ℕ, inl, refl}
use Rattle.syslog_text.proofs.PieceLemmas.Class.{◌past◌, ◌then◌, match_map, mapped_front, no_mapped, no_row, row_of}
use Rattle.syslog_text.specs.Pieces.Class.{Row}
use Rattle.syslog_sent.specs.Date.{fraction_row}
use Rattle.syslog_sent.proofs.DateLemmas.{fraction_row_det}
use Rattle.syslog_sent.proofs.date.fraction.Goals as goal

pub returns-in_err-rest : goal.returns-in_err-rest
returns-in_err-rest c = rw c.from_residual.ensures (no_mapped (Row fraction_row) ℕ (λ v. v.1.0)
    (no_row fraction_row fraction_row_det (inl c.in_err-rest.ensures)))

pub returns : goal.returns
returns c = match_map c.decimals.result
    (λ n. no_mapped (Row fraction_row) ℕ (λ v. v.1.0)
    (no_row fraction_row fraction_row_det (c.in_ok-rest.ensures.1 past inl n)))
    (λ x f. mapped_front (Row fraction_row) ℕ (λ v. v.1.0)
    (row_of fraction_row (c.in_ok-rest.ensures.1 then f then refl)))
    c.decimals.ensures
