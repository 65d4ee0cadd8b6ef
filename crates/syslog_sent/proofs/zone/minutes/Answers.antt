use Rattle.std.proofs.Common.{ℕ, inl, refl}
use Rattle.syslog_text.proofs.PieceLemmas.Class.{◌past◌, ◌then◌, match_map, mapped_front, no_mapped, no_row, row_of}
use Rattle.syslog_text.specs.Pieces.Class.{Row}
use Rattle.syslog_sent.specs.Zone.{minutes_row}
use Rattle.syslog_sent.proofs.ZoneLemmas.{minutes_row_det}
use Rattle.syslog_sent.proofs.zone.minutes.Goals as goal

pub returns : goal.returns
returns c = match_map c.pair.result
    (λ n. no_mapped (Row minutes_row) ℕ (λ v. v.1.0) (no_row minutes_row minutes_row_det
    (c.past_colon.ensures.1 past inl n)))
    (λ x f. mapped_front (Row minutes_row) ℕ (λ v. v.1.0)
    (row_of minutes_row (c.past_colon.ensures.1 then f then refl)))
    c.pair.ensures
