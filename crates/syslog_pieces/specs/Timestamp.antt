-- Timestamps: the texts that have one, and the text that is printed of one.
pub mod Fields
pub mod Rfc3164
pub mod MonthDate
pub mod Canonical
pub mod Printed
pub mod Rfc3339
pub mod Zone
use Rattle.std.specs.Prelude.{◌≡◌, ◌-ℤ◌, ℕ, List, [], ◌∷◌, Option, Some, None, MatchOption}
use Rattle.std.specs.Option.{option_map}
use Rattle.jiff.specs.Words.{nanos_of_seconds}
use Rattle.syslog_text.specs.Pieces.Class.{Text, Class}
use Rattle.syslog_text.specs.Text.{dash}
use Rattle.syslog_pieces.specs.declared.timestamp.OffsetTimestamp.{OffsetTimestamp}
use Rattle.syslog_pieces.specs.declared.timestamp.clock.ClockStamp.{ClockStamp}
use Rattle.syslog_pieces.specs.declared.timestamp.rfc3339_text.Rfc3339Fields.{Rfc3339Fields}
use Rattle.syslog_pieces.specs.Timestamp.Fields.{nanos_of_fields}
use Rattle.syslog_pieces.specs.Timestamp.Rfc3339.{HasStamp, HasRfc3339Stamp, stamp_text}

-- the whole text is an RFC 3339 text of this timestamp
abbrev pub IsStampText : List ℕ → OffsetTimestamp → Type 0
IsStampText text s = HasStamp text s.instant.nanosecond s.offset.seconds

-- this is the timestamp of the numbers that a text wrote
abbrev pub IsStampOfRfc3339 : Rfc3339Fields → OffsetTimestamp → Type 0
IsStampOfRfc3339 w s = HasRfc3339Stamp w s.instant.nanosecond s.offset.seconds

-- the instant at which the clock shows the fields, and the offset
abbrev pub clock_value : ClockStamp → OffsetTimestamp
clock_value c = record {
  instant = record {
    nanosecond = nanos_of_fields c.fields -ℤ nanos_of_seconds c.offset.seconds;
    in_range = c.in_range;
  };
  offset = c.offset;
}

-- the timestamp of which `P` holds, and none only where it holds of no timestamp
abbrev pub IsAnswer : (OffsetTimestamp → Type 0) → Option ClockStamp → Type 0
IsAnswer P answer = MatchOption answer ((s : OffsetTimestamp) → P s → ⊥) (λ c. P (clock_value c))

-- the same of one that may be absent
abbrev pub stamp_seen : Option ClockStamp → Option OffsetTimestamp
stamp_seen c = option_map clock_value c

-- a timestamp of a header: `-` where it is absent, or a whole RFC 3339 text before a space
abbrev pub IsHeaderStamp : Text → Text → Option OffsetTimestamp → Type 0
IsHeaderStamp p q None = p ≡ dash
IsHeaderStamp p q (Some s) =
    ((w : Rfc3339Fields) × stamp_text.Is p [] w × HasRfc3339Stamp w s.instant.nanosecond s.offset.seconds)
    × ((r : Text) × (q ≡ 32 ∷ r))

abbrev pub header_stamp : Class
header_stamp = record { Value = Option OffsetTimestamp; Is = IsHeaderStamp }
