-- Timestamps by what a clock shows.
use Rattle.std.specs.Prelude.{ℕ, ℤ, pos, min, List, ◌∷◌, ◌++◌, Option, Some, None}
use Rattle.jiff.specs.Types.{TimeZone}
use Rattle.jiff_fmt.specs.Text.{pad2, pad4}
use Rattle.syslog_pieces.specs.Timestamp.Printed.{date_time_text, fraction_text, offset_text}
use Rattle.syslog_pieces.specs.declared.timestamp.fields.CivilFields.{CivilFields}
use Rattle.syslog_pieces.specs.declared.timestamp.month_date.MonthDate.{MonthDate}
use Rattle.syslog_pieces.specs.declared.timestamp.rfc3339_text.Rfc3339Fields.{Rfc3339Fields}

-- the civil fields of an RFC 3339 text, where second 60 is taken as 59
abbrev pub fields_of_rfc3339 : Rfc3339Fields → CivilFields
fields_of_rfc3339 w = record {
  year = pos w.year;
  month = w.month;
  day = w.day;
  hour = w.hour;
  minute = w.minute;
  second = min w.second 59;
  nanosecond = w.nanosecond;
}

-- the year that the date shows, or otherwise the one that is used for it
abbrev pub year_of : MonthDate → Option ℤ → Option ℤ
year_of date year = elim date.year [ Some shown ↦ Some (pos shown) | None ↦ year ]

-- the civil fields of a month date in a year
abbrev pub civil_of : MonthDate → ℤ → CivilFields
civil_of date year = record {
  year = year;
  month = date.month;
  day = date.day;
  hour = date.hour;
  minute = date.minute;
  second = date.second;
  nanosecond = 0;
}

-- `YYYY-MM-DDTHH:MM:SS` in a year that is not negative
abbrev pub unsigned_date_time : ℕ → ℕ → ℕ → ℕ → ℕ → ℕ → List ℕ
unsigned_date_time year month day hour minute second =
    pad4 year ++ (45 ∷ pad2 month ++ (45 ∷ pad2 day
    ++ (84 ∷ pad2 hour ++ (58 ∷ pad2 minute ++ (58 ∷ pad2 second)))))

-- date and time, fraction, offset
abbrev pub fields_text : CivilFields → ℤ → List ℕ
fields_text f seconds = date_time_text f ++ (fraction_text f.nanosecond ++ offset_text seconds)

-- the zone that counts: the one that is given, or else the local one
abbrev pub zone_of : Option TimeZone → TimeZone → TimeZone
zone_of (Some tz) local = tz
zone_of None local = local
