use Rattle.std.proofs.Common.{ℤ, Option, inl, refl}
use Rattle.syslog_text.proofs.PieceLemmas.Class.{◌past◌, ◌then◌, match_map, mapped_front, no_mapped, no_row, row_of}
use Rattle.syslog_text.specs.Pieces.Class.{Row}
use Rattle.syslog_sent.specs.Zone.{zone_row}
use Rattle.syslog_sent.proofs.ZoneLemmas.{no_zone_begun, zone_row_det}
use Rattle.syslog_sent.proofs.zone.zone.Goals as goal

pub returns : goal.returns
returns c = match_map c.zone_mark.result
    (λ n. no_mapped (Row zone_row) (Option ℤ) (λ v. v.1.0) (no_row zone_row zone_row_det (c.blanks-mark.ensures past
    inl n)))
    (λ x f. mapped_front (Row zone_row) (Option ℤ) (λ v. v.1.0) (row_of zone_row (c.blanks-mark.ensures then f then
    refl)))
    c.zone_mark.ensures

pub returns-then-not-begins_zone : goal.returns-then-not-begins_zone
returns-then-not-begins_zone c = no_mapped (Row zone_row) (Option ℤ) (λ v. v.1.0)
    (no_row zone_row zone_row_det (c.blanks-mark.ensures past inl (no_zone_begun c.if-not-begins_zone.ensures)))
