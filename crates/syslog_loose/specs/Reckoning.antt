-- The year and the zone of dates that show none: this project's own choice.
use Rattle.std.specs.Prelude.{◌≡◌, ◌⊎◌, ◌≤ℤ◌, ◌+ℤ◌, ◌-ℤ◌, if◌then◌else◌, pos}
use Rattle.jiff.specs.{Placed.fixed_zone, Types.Date, Words.IsYmd, Words.epoch_day}
use Rattle.syslog_loose.specs.Words.{ℕ, ℤ, nat_eq, Option, Some, None, Dating, Offset, TimeZone}
use Rattle.syslog_loose.specs.Reading.{IncompleteDate}

-- the year of a date of December: in January, if the month is known, the one before
abbrev pub december_year : ℤ → Option ℕ → ℤ
december_year year None = year
december_year year (Some month) = if nat_eq month 1 then year -ℤ pos 1 else year

-- the year of a date, in this year and month
abbrev pub reckoned_year : ℤ → Option ℕ → IncompleteDate → ℤ
reckoned_year year month date = if nat_eq date.0 12 then december_year year month else year

-- the calendar has this date, on the day of that number or before it
abbrev pub IsDateBy : ℤ → ℤ → ℕ → ℕ → Type 0
IsDateBy last year month day = (it : Date) × IsYmd year (pos month) (pos day) it × (epoch_day it ≤ℤ last)

-- in this year the calendar has the date, no more than a day past the day
abbrev pub IsInTime : Date → IncompleteDate → ℤ → Type 0
IsInTime day date year = IsDateBy (epoch_day day +ℤ pos 1) year date.0 date.1

-- this is the last such year
pub record IsLatestYear (day : Date) (date : IncompleteDate) (year : ℤ) : Type 0 where
  pub in_time : IsInTime day date year
  pub last : (other : ℤ) → IsInTime day date other → other ≤ℤ year

-- the year of a date, on this day: the last such year; where there is none, 10000, which the calendar does not have
abbrev pub IsYearOnDay : Date → IncompleteDate → ℤ → Type 0
IsYearOnDay day date year =
    IsLatestYear day date year ⊎ (((other : ℤ) → ¬ (IsInTime day date other)) × (year ≡ pos 10000))

-- the zone is so many seconds ahead of UTC, always
abbrev pub IsZoneAt : ℤ → TimeZone → Type 0
IsZoneAt seconds zone = (offset : Offset) × (offset.seconds ≡ seconds) × (zone ≡ fixed_zone offset)

-- dates without a year are of this one, and those without an offset in this zone
abbrev pub dating_in : TimeZone → Option ℤ → Dating
dating_in zone year = record { year = year; zone = None; local = zone }
