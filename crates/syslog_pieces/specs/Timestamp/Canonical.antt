-- The timestamps that are read back from their printed text.
use Rattle.std.specs.Prelude.{◌≡◌, ◌⊎◌, ℕ, ℤ, pos, ◌%◌, ◌<◌, ◌+ℤ◌, ◌≤ℤ◌, unsigned_abs, true, ◌∷◌}
use Rattle.std.specs.Char.{is_ascii_digit}
use Rattle.jiff.specs.Words.{nanos_of_seconds}
use Rattle.syslog_text.specs.Pieces.Class.{Text}
use Rattle.syslog_pieces.specs.declared.timestamp.OffsetTimestamp.{OffsetTimestamp}
use Rattle.syslog_pieces.specs.Timestamp.Printed.{civil_fields}

-- the year that a clock at the timestamp's own offset shows
abbrev pub own_year : OffsetTimestamp → ℤ
own_year s = (civil_fields (s.instant.nanosecond +ℤ nanos_of_seconds s.offset.seconds)).year

-- that year is 0 to 9999, and the offset is whole minutes and under 24 hours either way
pub record IsCanonicalStamp (s : OffsetTimestamp) : Type 0 where
  pub year_from : pos 0 ≤ℤ own_year s
  pub year_to : own_year s ≤ℤ pos 9999
  pub minutes : unsigned_abs s.offset.seconds % 60 ≡ 0
  pub day : unsigned_abs s.offset.seconds < 86_400

-- a digit, or `-` and a digit, and more: so begins the printed text of each timestamp
abbrev pub BeginsWithYear : Text → Type 0
BeginsWithYear t = (c : ℕ) × (more : Text) × (is_ascii_digit c ≡ true) × ((t ≡ c ∷ more) ⊎ (t ≡ 45 ∷ c ∷ more))
