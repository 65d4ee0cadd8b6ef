-- The dates that senders show. They are month dates with a fraction, a zone or a year after the time, and dates that
-- are nearly those of RFC 3339.
--
-- 32 is a space, 44 `,`, 45 `-`, 46 `.`, 47 `/`, 58 `:`, 84 `T`.
use Rattle.std.proofs.Common.{inl, inr}
use Rattle.std.specs.Prelude.{◌≡◌, ◌⊎◌, ℕ, min, ◌&&◌, Bool, false, List, [], ◌∷◌, ◌++◌, Option, Some, None}
use Rattle.std.specs.Prelude.{unwrap_or, is_none, if◌then◌else◌, nat_eq}
use Rattle.std.specs.Char.{is_not_whitespace}
use Rattle.std.specs.Option.{option_flatten}
use Rattle.syslog_text.specs.Pieces.Class.{Class, Values, Row, NoFront, Ends, exactly, optional, mapped, after, spaced}
use Rattle.syslog_text.specs.Pieces.Rules.{◌or◌, such_that}
use Rattle.syslog_text.specs.Text.{number}
use Rattle.syslog_pieces.specs.Timestamp.{header_stamp}
use Rattle.syslog_pieces.specs.Timestamp.MonthDate.{month_date}
use Rattle.syslog_pieces.specs.Timestamp.Rfc3339.{pair, year, decimals}
use Rattle.syslog_pieces.specs.declared.timestamp.month_date.MonthDate.{MonthDate}
use Rattle.syslog_sent.specs.Named.{◌otherwise◌}
use Rattle.syslog_sent.specs.Zone.{zone}
use Rattle.syslog_sent.specs.declared.sent.SentDate.{SentDate}
use Rattle.std.specs.Prelude.{true, codes, map, chars}
use Rattle.syslog_text.specs.Pieces.Class.{Text}
use Rattle.syslog_sent.specs.Zone.{bare_word, is_among}

-- ---- fractions

-- a dot or a comma
abbrev pub point : Class
point = exactly (46 ∷ []) or exactly (44 ∷ [])

-- decimals after it, in nanoseconds
abbrev pub fraction_row : List Class
fraction_row = point ∷ decimals ∷ []

abbrev pub fraction : Class
fraction = mapped (Row fraction_row) ℕ (λ v. v.1.0)

-- decimals after a month date, whose last colon may be the mark before them
abbrev pub late_fraction_row : List Class
late_fraction_row = optional point ∷ decimals ∷ []

abbrev pub late_fraction : Class
late_fraction = mapped (Row late_fraction_row) ℕ (λ v. v.1.0)

-- ---- month dates

-- the text after a colon, if one begins it
abbrev pub after_mark : Text → Text
after_mark [] = []
after_mark (c ∷ cs) = if nat_eq c 58 then cs else c ∷ cs

-- White space follows, or the end, or a colon before one of these. After `2001` in an address of IPv6 a word goes on.
abbrev pub IsOver : Text → Type 0
IsOver t = Ends is_not_whitespace (after_mark t)

abbrev pub whole_year : Class
whole_year = record { Value = ℕ; Is = λ p q y. year.Is p q y × IsOver q }

-- a year after a space
abbrev pub year_after : Class
year_after = spaced whole_year

-- a month date, and what may follow it: a fraction, a zone, a year
abbrev pub bsd_row : List Class
bsd_row = month_date ∷ optional late_fraction ∷ optional zone ∷ optional year_after ∷ []

-- the date in this year, where one is shown
abbrev pub in_year : Option ℕ → MonthDate → MonthDate
in_year None d = d
in_year (Some y) d = record {
  year = Some y;
  month = d.month;
  day = d.day;
  hour = d.hour;
  minute = d.minute;
  second = d.second;
}

abbrev pub bsd_of : Values bsd_row → SentDate
bsd_of (d, (f, (z, (y, _)))) =
    record { date = in_year y d; nanosecond = unwrap_or f 0; offset = option_flatten z }

abbrev pub bsd_date : Class
bsd_date = mapped (Row bsd_row) SentDate bsd_of

-- none of the three follows it
abbrev pub is_plain : Values bsd_row → Bool
is_plain (d, (f, (z, (y, _)))) = is_none f && (is_none z && is_none y)

abbrev pub IsOdd : Values bsd_row → Type 0
IsOdd vs = is_plain vs ≡ false

-- a month date that one of them follows
abbrev pub odd_bsd_date : Class
odd_bsd_date = mapped (such_that (Row bsd_row) IsOdd) SentDate bsd_of

-- ---- dates of RFC 3339, nearly

-- a `T`, or a space
abbrev pub middle : Class
middle = mapped (exactly (84 ∷ []) or exactly (32 ∷ [])) (Unit {0}) (λ _. tt)

abbrev pub one_of_numbers : ℕ ⊎ ℕ → ℕ
one_of_numbers (inl n) = n
one_of_numbers (inr n) = n

-- a month or a day, after a dash or a slash
abbrev pub date_part : Class
date_part = mapped (after 45 (number 99) otherwise after 47 (number 99)) ℕ one_of_numbers

-- `YYYY-M-D` or `YYYY/M/D`, and `HH:MM:SS`, and perhaps a fraction and a zone
abbrev pub iso_row : List Class
iso_row =
    year ∷ date_part ∷ date_part ∷ middle ∷ pair 100 ∷ after 58 (pair 100) ∷ after 58 (pair 61)
    ∷ optional fraction ∷ optional zone ∷ []

-- second 60 is taken as 59
abbrev pub iso_of : Values iso_row → SentDate
iso_of (y, (m, (d, (_, (h, (mi, (s, (f, (z, _))))))))) = record {
  date = record { year = Some y; month = m; day = d; hour = h; minute = mi; second = min s 59 };
  nanosecond = unwrap_or f 0;
  offset = option_flatten z;
}

abbrev pub iso_date : Class
iso_date = mapped (Row iso_row) SentDate iso_of

-- the text has no front of the first class, and one of the second
abbrev pub unless : (C D : Class) → Class
unless C D = record { Value = D.Value; Is = λ p q v. NoFront C (p ++ q) × D.Is p q v }

-- such a date that is no timestamp of RFC 3339
abbrev pub odd_iso_date : Class
odd_iso_date = unless header_stamp iso_date

-- ---- any of them

abbrev pub one_of_dates : SentDate ⊎ SentDate → SentDate
one_of_dates (inl d) = d
one_of_dates (inr d) = d

abbrev pub any_date : Class
any_date = mapped (bsd_date otherwise iso_date) SentDate one_of_dates

-- ---- the day of the week

abbrev pub day_words : List (List ℕ)
day_words = codes "Mon" ∷ codes "Tue" ∷ codes "Wed" ∷ codes "Thu" ∷ codes "Fri" ∷ codes "Sat" ∷ codes "Sun" ∷ []

abbrev pub days : List Text
days = map chars day_words

abbrev pub IsDay : Text → Type 0
IsDay t = is_among t days ≡ true

abbrev pub weekday : Class
weekday = such_that bare_word IsDay
