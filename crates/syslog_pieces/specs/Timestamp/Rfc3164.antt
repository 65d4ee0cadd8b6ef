-- The timestamp of a header of RFC 3164, and the month date that a text shows.
use Rattle.std.specs.Prelude.{ℕ, [], ◌∷◌, Option, MatchOption}
use Rattle.syslog_text.specs.Pieces.Class.{Text, Class, Division, run, rest, optional, either}
use Rattle.syslog_pieces.specs.Pri.{priority}
use Rattle.syslog_text.specs.Text.{trimmed, is_blank}
use Rattle.syslog_pieces.specs.Timestamp.{header_stamp}
use Rattle.syslog_pieces.specs.Timestamp.MonthDate.{month_date, yearless_date}
use Rattle.syslog_pieces.specs.Timestamp.Zone.{Dating, IsMonthStamp}
use Rattle.syslog_pieces.specs.declared.timestamp.OffsetTimestamp.{OffsetTimestamp}
use Rattle.syslog_pieces.specs.declared.timestamp.month_date.MonthDate.{MonthDate}

-- `-`, a whole RFC 3339 text before a space, or a month date that has a timestamp
abbrev pub rfc3164_stamp : Dating → Class
rfc3164_stamp dating = either (Option OffsetTimestamp) header_stamp.Is
    (λ p q v. MatchOption v ⊥ (λ s. (date : MonthDate) × month_date.Is p q date × IsMonthStamp dating date s))

-- ---- what a text shows

-- the trimmed text is a priority or none, blanks or none, this date of the class, and anything
abbrev pub ShowsOf : (date : Class) → Text → date.Value → Type 0
ShowsOf date text d = (p : Option ℕ) × (more : Text)
    × Division (optional priority ∷ run is_blank ∷ date ∷ rest ∷ []) (trimmed text) (p, (tt, (d, (more, tt))))

-- the text shows this month date without a year
abbrev pub ShowsYearless : Text → MonthDate → Type 0
ShowsYearless text d = ShowsOf yearless_date text d

-- the text shows this month date, with a year or without
abbrev pub ShowsMonthDate : Text → MonthDate → Type 0
ShowsMonthDate text d = ShowsOf month_date text d
