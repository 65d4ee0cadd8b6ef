-- In which parts a month date is read.
use Rattle.std.specs.Prelude.{◌≡◌, ℕ, ◌-◌, ◌≤◌, ◌==◌, ◌&&◌, if◌then◌else◌, List, [], ◌∷◌, Option, Some, None, slice_get}
use Rattle.syslog_text.specs.Pieces.Class.{Class, Division, Text, Values, optional, rest, run, some_run}
use Rattle.syslog_pieces.specs.Pri.{priority}
use Rattle.syslog_text.specs.Text.{is_blank, number}
use Rattle.syslog_pieces.specs.Timestamp.MonthDate.{month, month_names, short_number, clock_row}
use Rattle.syslog_pieces.specs.declared.timestamp.month_date.MonthDate.{MonthDate}
use Rattle.syslog_pieces.specs.declared.timestamp.month_date.MonthDay.{MonthDay}
use Rattle.syslog_pieces.specs.declared.timestamp.month_date.TimeOfDay.{TimeOfDay}

-- which month three small letters name
unfoldable pub small_month : ℕ → ℕ → ℕ → Option ℕ
small_month a b c =
    if a == 106 && (b == 97 && c == 110) then Some 1
    else if a == 102 && (b == 101 && c == 98) then Some 2
    else if a == 109 && (b == 97 && c == 114) then Some 3
    else if a == 97 && (b == 112 && c == 114) then Some 4
    else if a == 109 && (b == 97 && c == 121) then Some 5
    else if a == 106 && (b == 117 && c == 110) then Some 6
    else if a == 106 && (b == 117 && c == 108) then Some 7
    else if a == 97 && (b == 117 && c == 103) then Some 8
    else if a == 115 && (b == 101 && c == 112) then Some 9
    else if a == 111 && (b == 99 && c == 116) then Some 10
    else if a == 110 && (b == 111 && c == 118) then Some 11
    else if a == 100 && (b == 101 && c == 99) then Some 12
    else None

-- they are the name of this month
pub record IsNamed (a b c month : ℕ) : Type 0 where
  pub from : 1 ≤ month
  pub name : slice_get month_names (month - 1) ≡ Some (a ∷ b ∷ c ∷ [])

-- the month and the day, each before blanks
abbrev pub day_row : List Class
day_row = month ∷ some_run is_blank ∷ short_number ∷ some_run is_blank ∷ []

abbrev pub day_values : MonthDay → Values day_row
day_values d = (d.month, (tt, (d.day, (tt, tt))))

-- the year before blanks
abbrev pub year_row : List Class
year_row = number 2147483647 ∷ some_run is_blank ∷ []

-- the clock, with one more colon after it or not
abbrev pub clock_values : TimeOfDay → Option (Unit {0}) → Values clock_row
clock_values t more = (t.hour, (tt, (t.minute, (tt, (t.second, (more, tt))))))

-- the month date of these parts
abbrev pub date_of : Option ℕ → MonthDay → TimeOfDay → MonthDate
date_of year d t =
    record { year = year; month = d.month; day = d.day; hour = t.hour; minute = t.minute; second = t.second }

-- ---- what a text shows

-- a priority or none, blanks or none, a month date of this kind, and anything
abbrev pub showing_row : Class → List Class
showing_row date = optional priority ∷ run is_blank ∷ date ∷ rest ∷ []

-- the text is such a row, with this date of the class
abbrev pub BeginsWithDate : (date : Class) → Text → date.Value → Type 0
BeginsWithDate date text d =
    (p : Option ℕ) × (more : Text) × Division (showing_row date) text (p, (tt, (d, (more, tt))))
