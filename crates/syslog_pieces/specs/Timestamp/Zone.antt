-- The timestamp of civil fields in a zone, said over what `jiff` says of the zone: whether a clock there shows the
-- datetime at one instant, at two (a fold) or at none (a gap).
use Rattle.std.specs.Prelude.{◌≡◌, ℤ, pos, ◌+ℤ◌, Option, Some, None, option_map}
use Rattle.std.specs.Borrow.{Bor}
use Rattle.jiff.specs.Types.{DateTime, Offset, TimeZone, AmbiguousOffset, Unambiguous, Gap, Fold}
use Rattle.jiff.specs.declared.tz.timezone.TimeZone.{TimeZone as ZoneHandle}
use Rattle.jiff.specs.Words.{plain_zone, civil_nanos, nanos_of_seconds, offset_at, ambiguous_at}
use Rattle.syslog_pieces.specs.declared.timestamp.OffsetTimestamp.{OffsetTimestamp}
use Rattle.syslog_pieces.specs.declared.timestamp.fields.CivilFields.{CivilFields}
use Rattle.syslog_pieces.specs.declared.timestamp.month_date.MonthDate.{MonthDate}
use Rattle.syslog_pieces.specs.declared.timestamp.zone.Dating.{Dating as DatingHandle}
use Rattle.syslog_pieces.specs.Timestamp.Fields.{IsDateTime, IsStampAt, fields_of}

-- How a date without an offset gets a timestamp: the year of a date that has none, the zone that is given, and the
-- local zone, which is used if none is given. If the year is absent too, such a date has no timestamp.
pub record Dating : Type 0 where
  pub year : Option ℤ
  pub zone : Option TimeZone
  pub local : TimeZone

-- the year, the zone and the local zone that a caller hands in
abbrev pub dating_of : Option ℤ → Option (Bor ZoneHandle) → Bor ZoneHandle → Dating
dating_of year tz local =
    record { year = year; zone = option_map (λ z. plain_zone z.now) tz; local = plain_zone local.now }

-- the same, handed on as one value
abbrev pub dating_value : DatingHandle → Dating
dating_value d = dating_of d.year d.tz d.local

-- the one offset, or the one before a fold, and none in a gap
abbrev pub earlier : AmbiguousOffset → Option Offset
earlier (Unambiguous offset) = Some offset
earlier (Gap before after) = None
earlier (Fold before after) = Some before

-- the fields taken as UTC, with the zone's offset at that instant
pub record IsStampInGap (tz : TimeZone) (dt : DateTime) (s : OffsetTimestamp) : Type 0 where
  pub instant : s.instant.nanosecond ≡ civil_nanos dt
  pub at_offset : s.offset.seconds ≡ offset_at tz s.instant.nanosecond

-- the one instant, or the earlier of two, and in a gap what is handed in for it
abbrev pub IsStampOf : AmbiguousOffset → DateTime → (OffsetTimestamp → Type 0) → OffsetTimestamp → Type 0
IsStampOf (Unambiguous offset) dt InGap s = IsStampAt dt offset s
IsStampOf (Gap before after) dt InGap s = InGap s
IsStampOf (Fold before after) dt InGap s = IsStampAt dt before s

-- in the zone that is given, where a gap has no timestamp, or else in the local one
abbrev pub IsStampInAny : Option TimeZone → TimeZone → DateTime → OffsetTimestamp → Type 0
IsStampInAny (Some tz) local dt s = IsStampOf (ambiguous_at tz dt) dt (λ _. ⊥) s
IsStampInAny None local dt s = IsStampOf (ambiguous_at local dt) dt (IsStampInGap local dt) s

-- the calendar has the date and the clock the time of the fields, and this is their timestamp
abbrev pub IsStampOfFields : Option TimeZone → TimeZone → CivilFields → OffsetTimestamp → Type 0
IsStampOfFields tz local f s = (dt : DateTime) × (fields_of dt ≡ f) × IsStampInAny tz local dt s

-- the month date shows a year, or is taken in that of the dating; there is such a date and time, and this is its stamp
abbrev pub IsMonthStamp : Dating → MonthDate → OffsetTimestamp → Type 0
IsMonthStamp dating date s = (year : ℤ) × (dt : DateTime)
    × (elim date.year [ Some shown ↦ Some (pos shown) | None ↦ dating.year ] ≡ Some year)
    × IsDateTime dt year date.month date.day date.hour date.minute date.second 0
    × IsStampInAny dating.zone dating.local dt s

-- a clock in the zone shows the year at the instant
pub record IsYearAt (tz : TimeZone) (nanosecond year : ℤ) : Type 0 where
  pub shown : DateTime
  pub shows : civil_nanos shown ≡ nanosecond +ℤ nanos_of_seconds (offset_at tz nanosecond)
  pub is_year : year ≡ shown.date.year
