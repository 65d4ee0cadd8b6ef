-- Month dates: the dates of RFC 3164, which have no offset and may have no year. (RFC 3164 section 4.1.2 has one form
-- of them; the year, the blanks and the last colon are this project's own choice.)
use Rattle.std.specs.Prelude.{◌≡◌, ℕ, ◌+◌, List, [], ◌∷◌, Some, None, codes, map, slice_get}
use Rattle.std.specs.Char.{to_ascii_lowercase}
use Rattle.syslog_text.specs.Pieces.Class.{Text, Class, Values, Row, some_run, exactly, optional, mapped, either}
use Rattle.syslog_text.specs.Text.{is_blank, number, colon}
use Rattle.syslog_pieces.specs.declared.timestamp.month_date.MonthDate.{MonthDate}

-- the names of the months in small letters
abbrev pub month_names : List Text
month_names =
    codes "jan" ∷ codes "feb" ∷ codes "mar" ∷ codes "apr" ∷ codes "may" ∷ codes "jun" ∷ codes "jul" ∷ codes "aug"
    ∷ codes "sep" ∷ codes "oct" ∷ codes "nov" ∷ codes "dec" ∷ []

-- the name of month n, from 1 on, in letters of either case
abbrev pub IsMonthName : Text → ℕ → Type 0
IsMonthName p n = (before : ℕ) × (n ≡ before + 1) × (slice_get month_names before ≡ Some (map to_ascii_lowercase p))

abbrev pub month : Class
month = record { Value = ℕ; Is = λ p q n. IsMonthName p n }

-- a number of 32 bits
abbrev pub short_number : Class
short_number = number 4294967295

-- hour, minute and second with a colon between two, and one more colon where one follows
abbrev pub clock_row : List Class
clock_row = short_number ∷ exactly colon ∷ short_number ∷ exactly colon ∷ short_number ∷ optional (exactly colon) ∷ []

-- month, day and clock, with blanks between two
abbrev pub yearless_row : List Class
yearless_row = month ∷ some_run is_blank ∷ short_number ∷ some_run is_blank ∷ clock_row

abbrev pub yearless_of : Values yearless_row → MonthDate
yearless_of (m, (_, (d, (_, (h, (_, (n, (_, (s, (_, _)))))))))) =
    record { year = None; month = m; day = d; hour = h; minute = n; second = s }

-- a month date without a year
abbrev pub yearless_date : Class
yearless_date = mapped (Row yearless_row) MonthDate yearless_of

-- month, day, year and clock, with blanks between two
abbrev pub dated_row : List Class
dated_row =
    month ∷ some_run is_blank ∷ short_number ∷ some_run is_blank ∷ number 2147483647 ∷ some_run is_blank ∷ clock_row

abbrev pub dated_of : Values dated_row → MonthDate
dated_of (m, (_, (d, (_, (y, (_, (h, (_, (n, (_, (s, (_, _)))))))))))) =
    record { year = Some y; month = m; day = d; hour = h; minute = n; second = s }

-- a month date of either form
abbrev pub month_date : Class
month_date = either MonthDate yearless_date.Is (mapped (Row dated_row) MonthDate dated_of).Is
