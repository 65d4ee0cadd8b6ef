-- The text that is printed of a stamp, in characters, all of which are ASCII: 43 is `+`, 45 `-`,
-- 46 `.`, 58 `:`, 84 `T`.
use Rattle.std.specs.Prelude.{ℕ, zero, suc, ℤ, pos, negsuc, ◌+◌, ◌-◌, ◌/◌, ◌%◌, ◌==◌, nat_le}
use Rattle.std.specs.Prelude.{if◌then◌else◌, ◌+ℤ◌, ◌-ℤ◌, unsigned_abs, List, [], ◌∷◌, ◌++◌}
use Rattle.std.specs.Int.{int_div_euclid, int_rem_euclid}
use Rattle.jiff_core.specs.Calendar.{days_of_months, days_from_civil}
use Rattle.jiff.specs.Words.{nanos_of_seconds}
use Rattle.jiff_tz.specs.Year.{year_of_day}
use Rattle.jiff_fmt.specs.Text.{pad2, pad4}
use Rattle.syslog_text.specs.Text.Digits.{pad3}
use Rattle.syslog_pieces.specs.declared.timestamp.fields.CivilFields.{CivilFields}

-- the most months, at most n, from January on that fit in that many days of the year
unfoldable pub months_within : ℤ → ℕ → ℕ → ℕ
months_within year zero days = 0
months_within year (suc n) days =
    if nat_le (days_of_months year (suc n)) days then suc n else months_within year n days

-- the fields in a year at a place in it, so many nanoseconds after midnight
unfoldable pub place_fields : ℤ → ℕ → ℕ → CivilFields
place_fields year place nanos =
    let months = months_within year 11 place in
    record {
      year = year;
      month = months + 1;
      day = place - days_of_months year months + 1;
      hour = nanos / 3_600_000_000_000;
      minute = nanos / 60_000_000_000 % 60;
      second = nanos / 1_000_000_000 % 60;
      nanosecond = nanos % 1_000_000_000;
    }

-- the civil fields so many nanoseconds after 1970-01-01T00:00:00
unfoldable pub civil_fields : ℤ → CivilFields
civil_fields nanos =
    let day = int_div_euclid nanos (pos 86_400_000_000_000) in
    let year = year_of_day day in
    place_fields year (unsigned_abs (day -ℤ days_from_civil year 1 1))
    (unsigned_abs (int_rem_euclid nanos (pos 86_400_000_000_000)))

-- 0, 3, 6 or 9 decimals, the least that is exact
unfoldable pub fraction_text : ℕ → List ℕ
fraction_text n =
    if n == 0 then []
    else if n % 1_000_000 == 0 then 46 ∷ pad3 (n / 1_000_000)
    else if n % 1_000 == 0 then 46 ∷ pad3 (n / 1_000_000) ++ pad3 (n / 1_000 % 1_000)
    else 46 ∷ pad3 (n / 1_000_000) ++ (pad3 (n / 1_000 % 1_000) ++ pad3 (n % 1_000))

-- the offset's own sign
abbrev pub offset_sign : ℤ → ℕ
offset_sign (pos n) = 43
offset_sign (negsuc n) = 45

-- a sign and `HH:MM`, to the nearest minute, 30 seconds going up
unfoldable pub offset_text : ℤ → List ℕ
offset_text seconds =
    let minutes = (unsigned_abs seconds + 30) / 60 in
    offset_sign seconds ∷ pad2 (minutes / 60) ++ 58 ∷ pad2 (minutes % 60)

-- `-` in front of a negative year
abbrev pub year_sign : ℤ → List ℕ
year_sign (pos n) = []
year_sign (negsuc n) = 45 ∷ []

-- `YYYY-MM-DDTHH:MM:SS`, after the year's sign if it has one
unfoldable pub date_time_text : CivilFields → List ℕ
date_time_text f =
    year_sign f.year ++ (pad4 (unsigned_abs f.year) ++ (45 ∷ pad2 f.month ++ (45 ∷ pad2 f.day
    ++ (84 ∷ pad2 f.hour ++ (58 ∷ pad2 f.minute ++ (58 ∷ pad2 f.second))))))

-- what a clock at the offset o, in seconds, shows at the instant n, in nanoseconds, and the offset
unfoldable pub printed_stamp : ℤ → ℤ → List ℕ
printed_stamp n o =
    let shown = civil_fields (n +ℤ nanos_of_seconds o) in
    date_time_text shown ++ (fraction_text shown.nanosecond ++ offset_text o)
