-- Civil fields as numbers, the datetime that they name, and its stamp at an offset.
use Rattle.std.specs.Prelude.{◌≡◌, ℕ, ℤ, pos, ◌+◌, ◌*◌, ◌<◌, ◌+ℤ◌, ◌-ℤ◌, ◌*ℤ◌}
use Rattle.jiff.specs.Types.{DateTime, Offset}
use Rattle.jiff.specs.Words.{instant_of, nanos_of_seconds}
use Rattle.jiff_core.specs.Calendar.{IsCivilDate, days_from_civil}
use Rattle.syslog_pieces.specs.declared.timestamp.OffsetTimestamp.{OffsetTimestamp}
use Rattle.syslog_pieces.specs.declared.timestamp.fields.CivilFields.{CivilFields}

-- the calendar has the date, in the years -9999 to 9999, and a clock shows the time
pub record AreCivil (f : CivilFields) : Type 0 where
  pub date : IsCivilDate f.year f.month f.day
  pub hour_in : f.hour < 24
  pub minute_in : f.minute < 60
  pub second_in : f.second < 60
  pub nanosecond_in : f.nanosecond < 1_000_000_000

-- the fields of a datetime
abbrev pub fields_of : DateTime → CivilFields
fields_of dt = record {
  year = dt.date.year;
  month = dt.date.month;
  day = dt.date.day;
  hour = dt.time.hour;
  minute = dt.time.minute;
  second = dt.time.second;
  nanosecond = dt.time.subsec_nanosecond;
}

-- nanoseconds since 1970-01-01T00:00:00 on a clock whose days have 24 hours
abbrev pub nanos_of_fields : CivilFields → ℤ
nanos_of_fields f =
    days_from_civil f.year f.month f.day *ℤ pos 86_400_000_000_000
    +ℤ pos ((f.hour * 3600 + f.minute * 60 + f.second) * 1_000_000_000 + f.nanosecond)

-- the datetime has this date and this time of day
pub record IsDateTime (dt : DateTime) (year : ℤ) (month day hour minute second nanosecond : ℕ) : Type 0 where
  pub year_is : dt.date.year ≡ year
  pub month_is : dt.date.month ≡ month
  pub day_is : dt.date.day ≡ day
  pub hour_is : dt.time.hour ≡ hour
  pub minute_is : dt.time.minute ≡ minute
  pub second_is : dt.time.second ≡ second
  pub nanosecond_is : dt.time.subsec_nanosecond ≡ nanosecond

-- the instant at which a clock at the offset shows the datetime
pub record IsStampAt (dt : DateTime) (offset : Offset) (s : OffsetTimestamp) : Type 0 where
  pub instant : s.instant.nanosecond ≡ instant_of dt offset
  pub at_offset : s.offset.seconds ≡ offset.seconds

-- a clock at the offset shows the fields at the timestamp's instant
pub record IsStampOfClock (f : CivilFields) (offset : Offset) (s : OffsetTimestamp) : Type 0 where
  pub civil : AreCivil f
  pub instant : s.instant.nanosecond ≡ nanos_of_fields f -ℤ nanos_of_seconds offset.seconds
  pub at_offset : s.offset.seconds ≡ offset.seconds
