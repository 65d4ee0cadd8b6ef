use Rattle.std.proofs.Common.{ℕ, inl, refl}
use Rattle.syslog_text.proofs.PieceLemmas.Class.{◌past◌, ◌then◌, match_map, mapped_front, no_mapped, no_row, row_of}
use Rattle.std.specs.Char.{is_ascii_digit}
use Rattle.syslog_pieces.specs.Timestamp.Rfc3339.{decimals}
use Rattle.syslog_text.proofs.TextLemmas.Runs.{no_run}
use Rattle.syslog_text.specs.Pieces.Class.{Row}
use Rattle.syslog_sent.specs.Date.{late_fraction_row}
use Rattle.syslog_sent.proofs.DateLemmas.{late_fraction_row_det, not_begun}
use Rattle.syslog_sent.proofs.date.late_fraction.Goals as goal

pub returns : goal.returns
returns c = match_map c.decimals.result
    (λ n. no_mapped (Row late_fraction_row) ℕ (λ v. v.1.0)
    (no_row late_fraction_row late_fraction_row_det (c.past_point-digits.ensures.1 past inl n)))
    (λ x f. mapped_front (Row late_fraction_row) ℕ (λ v. v.1.0)
    (row_of late_fraction_row (c.past_point-digits.ensures.1 then f then refl)))
    c.decimals.ensures

pub returns-then-not-begins_digit : goal.returns-then-not-begins_digit
returns-then-not-begins_digit c = no_mapped (Row late_fraction_row) ℕ (λ v. v.1.0)
    (no_row late_fraction_row late_fraction_row_det (c.past_point-digits.ensures.1 past inl
    (no_run is_ascii_digit _ (not_begun is_ascii_digit _ c.if-not-begins_digit.ensures)
    decimals (λ p q n (v, (u, h, i), k). (h.0, h.1)))))
