-- Civil fields: which are in range, what they count to, and where a fold is.
use Rattle.syslog_pieces.proofs.Names.{◌≡◌, ℤ, suc, pos, ◌+◌, ◌-◌, ◌*◌, ◌<◌, ◌≤◌, ◌≢◌, ap, ◌∙◌, sym, Gap, ⊤}
use Rattle.syslog_pieces.proofs.Names.{ℕ, arith, AreCivil, neg_ℤ, DateTime, Offset, fields_of, Option, TimeZone, int_lt}
use Rattle.syslog_pieces.proofs.Names.{zero, signed_arith, same_datetime, if◌then◌else◌, int_div_euclid, int_rem_euclid}
use Rattle.syslog_pieces.proofs.Names.{negsuc, nat_tests, civil_nanos, instant_of, fields_text, Unambiguous, IsDateTime}
use Rattle.syslog_pieces.proofs.Names.{rules, ◌+ℤ◌, ◌-ℤ◌, ◌≤ℤ◌, refl, ◌<ℤ◌, Bool, true, false, Some, None, Fold, ◌*ℤ◌}
use Rattle.syslog_pieces.proofs.Names.{unsigned_abs, nanos_of_seconds, days_from_civil-day_count, day_count-day_of_year}
use Rattle.syslog_pieces.proofs.Names.{IsTimestampNanos, IsOffsetSeconds, CivilFields, nanos_of_fields, AmbiguousOffset}
use Rattle.jiff.specs.Words.{IsCivilNanos, IsEpochDay, IsYear, ambiguous_at}
use Rattle.jiff_core.specs.Calendar.{days_of_months, days_of_years, days_from_civil, days_in_year}
use Rattle.jiff_core.specs.Calendar.{day_count, IsCivilDate}
use Rattle.jiff_core.proofs.CalendarLemmas.{days_of_months_more, days_of_months_all, days_of_months-zero}
use Rattle.jiff_core.proofs.CalendarLemmas.{day_count-later_year, day_count-lt_year, day_count-min}
use Rattle.jiff_core.proofs.CalendarLemmas.{day_count-year_bounds, days_in_year_bounds}
use Rattle.jiff_core.proofs.MarchLemmas.{days_of_years-march_days}
use Rattle.jiff_core.proofs.SignedLemmas.{int_rem_euclid-parts, int_div_euclid-parts}
use Rattle.jiff_tz.specs.Year.{year_of_day, years_within}
use Rattle.jiff_core.proofs.DateLemmas.{civil}
use Rattle.jiff_core.proofs.DateTimeLemmas.{civil_nanos-parts, civil_nanos_range, time_nanos_bound}
use Rattle.jiff_tz.specs.PosixReader.{match_some}
use Rattle.jiff_tz.specs.declared.posix.Dst.{Dst}
use Rattle.jiff_tz.specs.declared.posix.TimeZone.{TimeZone as PosixZone}
use Rattle.jiff_tz.specs.declared.tzif.Tzif.{Tzif}
use Rattle.jiff_tz.specs.declared.tzif.transition.Transition.{Transition}
use Rattle.syslog_pieces.specs.Timestamp.Printed.{months_within, place_fields, civil_fields, printed_stamp}
use Rattle.jiff_tz.specs.PosixRule as Posix
use Rattle.jiff_tz.specs.Tzif as Table

-- ---- every count of nanoseconds in range has civil fields, which the calendar has

-- an instant has civil nanoseconds at every offset
pub in_range-at_offset : (n o : ℤ) → IsTimestampNanos n → IsOffsetSeconds o → IsCivilNanos (n +ℤ nanos_of_seconds o)
in_range-at_offset n o h k = omega (arith, signed_arith)

abs-diff : (a b : ℤ) (k : ℕ) → a ≡ b +ℤ pos k → unsigned_abs (a -ℤ b) ≡ k
abs-diff a b k e = grind (arith, signed_arith)

months_fit : (y : ℤ) (n count : ℕ) → (days_of_months y (months_within y n count) ≤ count) × (months_within y n count ≤
    n) × (count < days_of_months y (suc n) → count < days_of_months y (suc (months_within y n count)))
unfolding months_within
months_fit y zero count = let none = days_of_months-zero y in (omega arith, omega arith, λ h. h)
months_fit y (suc n) count = let below = months_fit y n count in grind (arith, nat_tests)

years_fit : (n count : ℕ) → (days_of_years (years_within n count) ≤ count) × (years_within n count ≤ n)
    × (count < days_of_years (suc n) → count < days_of_years (suc (years_within n count)))
unfolding years_within days_of_years
years_fit zero count = (omega arith, omega arith, λ h. h)
years_fit (suc n) count = let below = years_fit n count in grind (arith, nat_tests)

day_count-first : (y : ℤ) (k : ℕ) → y +ℤ pos 10000 ≡ pos k → day_count y 1 1 ≡ days_of_years k
unfolding day_count
day_count-first y k e = rw e (omega (arith, days_of_months-zero y))

days_of_years-next : (k : ℕ) → days_of_years (suc k) ≡ days_of_years k + days_in_year (pos k -ℤ pos 10000)
unfolding days_of_years
days_of_years-next k = refl

-- the year and the place in it of a day that the library has
pub record IsPlaced (day year : ℤ) (place : ℕ) : Type 0 where
  pub year_in : IsYear year
  pub place_in : place < days_in_year year
  pub same : day ≡ days_from_civil year 1 1 +ℤ pos place

pub from_start : (z : ℤ) → pos 0 ≤ℤ z → pos (unsigned_abs z) ≡ z
from_start (pos n) h = refl
from_start (negsuc n) h = absurd (omega (arith, signed_arith))

year_placed : (day : ℤ) (count k : ℕ) → IsEpochDay day → pos count ≡ day +ℤ pos 4_371_953
    → (days_of_years k ≤ count) × (k ≤ 20000) × (count < days_of_years (suc 20000) → count < days_of_years (suc k))
    → IsPlaced day (pos k -ℤ pos 10000) (unsigned_abs (day -ℤ days_from_civil (pos k -ℤ pos 10000) 1 1))
year_placed day count k range e (low, most, next) =
    let high : count < days_of_years (suc k) =
    next (omega (arith, signed_arith, range.1, days_of_years-march_days 20000, days_of_years-next 20000)) in
    let below : k ≢ 20000 = λ s. let f = ap days_of_years s in
    omega (arith, signed_arith, range.1, days_of_years-march_days 20000) in
    let above : k ≢ 0 = λ s. let f = ap (λ j. days_of_years (suc j)) s in
    omega (arith, signed_arith, range.0, days_of_years-march_days 1) in
    let first = day_count-first (pos k -ℤ pos 10000) k (omega (arith, signed_arith)) in
    let number = days_from_civil-day_count (pos k -ℤ pos 10000) 1 1 in
    let step = days_of_years-next k in
    let same : day ≡ days_from_civil (pos k -ℤ pos 10000) 1 1 +ℤ pos (count - days_of_years k) =
    omega (arith, signed_arith) in
    rw (abs-diff day _ _ same)
    (record { year_in = omega (arith, signed_arith, below, above); place_in = omega arith; same = same })

-- the month and the day at a place in a year
date_placed : (y day : ℤ) (place j : ℕ) → IsPlaced day y place → days_of_months y j ≤ place → j ≤ 11
    → (place < days_of_months y 12 → place < days_of_months y (suc j))
    → IsCivilDate y (j + 1) (place - days_of_months y j + 1)
    × (days_from_civil y (j + 1) (place - days_of_months y j + 1) ≡ day)
date_placed y day place j p low most next =
    let d = place - days_of_months y j + 1 in
    let back : j + 1 - 1 ≡ j = omega arith in
    let same : suc j ≡ j + 1 = omega arith in
    let all = days_of_months_all y in
    let inside = p.place_in in
    let is_day = p.same in
    let high = rw same at (next (omega arith)) in
    let more = rw back at (days_of_months_more y (j + 1) (omega arith)) in
    let ordinal = rw back at (day_count-day_of_year y (j + 1) d (omega arith)) in
    let number = days_from_civil-day_count y (j + 1) d in
    let first = days_from_civil-day_count y 1 1 in
    ((p.year_in, (omega arith, omega arith), (omega arith, omega arith)), omega (arith, signed_arith))

fields_exist-place : (y day : ℤ) (place n : ℕ) → IsPlaced day y place → n < 86_400_000_000_000 → AreCivil (place_fields
    y place n) × (nanos_of_fields (place_fields y place n) ≡ day *ℤ pos 86_400_000_000_000 +ℤ pos n)
unfolding place_fields
fields_exist-place y day place n p small =
    let (low, most, next) = months_fit y 11 place in
    let (date, count) = date_placed y day place (months_within y 11 place) p low most next in (
      record {
        date = date;
        hour_in = omega arith;
        minute_in = omega arith;
        second_in = omega arith;
        nanosecond_in = omega arith;
      },
      rw count (ap (λ (k : ℕ). day *ℤ pos 86_400_000_000_000 +ℤ pos k) (omega arith)),
    )

-- the fields of a count in range exist, and have that count
pub civil_fields_exist : (n : ℤ) → IsCivilNanos n → AreCivil (civil_fields n) × (nanos_of_fields (civil_fields n) ≡ n)
unfolding civil_fields
civil_fields_exist n h =
    let day = int_div_euclid n (pos 86_400_000_000_000) in
    let left = int_rem_euclid n (pos 86_400_000_000_000) in
    let quot = int_div_euclid-parts n 86_400_000_000_000 (omega arith) in
    let rem = int_rem_euclid-parts n 86_400_000_000_000 (omega arith) in
    let range : IsEpochDay day = omega (arith, signed_arith, h.0, h.1) in
    let count = from_start (day +ℤ pos 4_371_953) (omega (arith, signed_arith)) in
    let placed = year_placed day _ _ range count (years_fit 20000 (unsigned_abs (day +ℤ pos 4_371_953))) in
    let whole : pos (unsigned_abs left) ≡ left = from_start left (omega (arith, signed_arith)) in
    let small : unsigned_abs left < 86_400_000_000_000 = omega (arith, signed_arith) in
    let there = fields_exist-place (year_of_day day) day _ (unsigned_abs left) placed small in
    (there.0, there.1 ∙ omega (arith, signed_arith))

-- the instant of fields by the days and seconds that they count
pub instant_by_count : (f : CivilFields) (count : ℕ) (off sec nan : ℤ) → count ≡ day_count f.year f.month f.day
    → sec +ℤ off +ℤ pos 377_736_739_200 ≡ pos (count * 86_400 + (f.hour * 3_600 + f.minute * 60 + f.second))
    → nan ≡ sec *ℤ pos 1_000_000_000 +ℤ pos f.nanosecond → nan ≡ nanos_of_fields f -ℤ nanos_of_seconds off
instant_by_count f count off sec nan counted second nanos =
    let number = days_from_civil-day_count f.year f.month f.day in
    omega (arith, signed_arith, counted, number, second, nanos)

-- ---- the fields of a datetime, of a count of nanoseconds, and on a clock
pub civil-fields_of : (dt : DateTime) → AreCivil (fields_of dt)
civil-fields_of dt = search rules

pub civil_nanos-fields : (dt : DateTime) (f : CivilFields) → fields_of dt ≡ f → civil_nanos dt ≡ nanos_of_fields f
civil_nanos-fields dt f e = civil_nanos-parts dt ∙ ap nanos_of_fields e

pub civil-fields : (dt : DateTime) (f : CivilFields) → fields_of dt ≡ f → AreCivil f
civil-fields dt f e = rw (← e) (civil-fields_of dt)

-- a datetime has the fields exactly if it has each of them
pub has_fields : (dt : DateTime) (f : CivilFields)
    → IsDateTime dt f.year f.month f.day f.hour f.minute f.second f.nanosecond → fields_of dt ≡ f
has_fields dt f h =
    rw (h.year_is, h.month_is, h.day_is, h.hour_is, h.minute_is, h.second_is, h.nanosecond_is) refl

pub is_datetime : (dt : DateTime) (f : CivilFields) → fields_of dt ≡ f
    → IsDateTime dt f.year f.month f.day f.hour f.minute f.second f.nanosecond
is_datetime dt f e = rw (← e) (search rules)

-- the datetime of fields that there are
abbrev pub datetime_of : (f : CivilFields) → AreCivil f → (dt : DateTime) × (fields_of dt ≡ f)
datetime_of f h = (
  record {
    date = record {
      year = f.year;
      month = f.month;
      day = f.day;
      year_in = h.date.0;
      month_in = h.date.1;
      day_in = h.date.2;
    };
    time = record {
      hour = f.hour;
      minute = f.minute;
      second = f.second;
      subsec_nanosecond = f.nanosecond;
      hour_in = h.hour_in;
      minute_in = h.minute_in;
      second_in = h.second_in;
      subsec_in = h.nanosecond_in;
    };
  },
  refl,
)

pub civil_fields-is : (dt : DateTime) (n : ℤ) → civil_nanos dt ≡ n → civil_fields n ≡ fields_of dt
civil_fields-is dt n e =
    let (there, same) = civil_fields_exist n (rw e at (civil_nanos_range dt)) in
    let (found, is) = datetime_of (civil_fields n) there in
    sym is ∙ ap fields_of (same_datetime found dt (civil_nanos-fields found (civil_fields n) is ∙ same ∙ sym e))

-- what is printed, by the datetime that the clock at the offset shows
pub printed_stamp-is : (dt : DateTime) (n o : ℤ) → civil_nanos dt ≡ n +ℤ nanos_of_seconds o
    → printed_stamp n o ≡ fields_text (fields_of dt) o
unfolding printed_stamp
printed_stamp-is dt n o e = rw (civil_fields-is dt _ e)

-- what a clock at an offset shows at the instant of a datetime there
pub shows_datetime : (dt : DateTime) (n o : ℤ) → n ≡ civil_nanos dt -ℤ nanos_of_seconds o
    → civil_fields (n +ℤ nanos_of_seconds o) ≡ fields_of dt
shows_datetime dt n o e = civil_fields-is dt _ (omega (arith, signed_arith))

-- and at the instant of fields
pub shows_fields : (f : CivilFields) (n o : ℤ) → AreCivil f → n ≡ nanos_of_fields f -ℤ nanos_of_seconds o
    → civil_fields (n +ℤ nanos_of_seconds o) ≡ f
shows_fields f n o h e =
    let (dt, same) = datetime_of f h in
    shows_datetime dt n o (rw (civil_nanos-fields dt f same) e) ∙ same

-- the instant that a datetime shows there
pub shown_nanos : (dt : DateTime) (f : CivilFields) (n o : ℤ) → f ≡ fields_of dt
    → civil_nanos dt ≡ n +ℤ nanos_of_seconds o → nanos_of_fields f -ℤ nanos_of_seconds o ≡ n
shown_nanos dt f n o e h = omega (arith, signed_arith, civil_nanos-fields dt f (sym e), h)

-- a clock at any offset that shows a year from 0 to 9998 shows an instant in range
in_range-years : (dt : DateTime) (offset : Offset) → pos 0 ≤ℤ dt.date.year → dt.date.year <ℤ pos 9999
    → IsTimestampNanos (instant_of dt offset)
in_range-years dt offset from to =
    let d = dt.date in
    let first = day_count-day_of_year d.year d.month d.day d.day_in.0 in
    let low =
    day_count-later_year (neg_ℤ (pos 9999)) d.year (omega (arith, signed_arith)) (omega (arith, signed_arith, from)) in
    let least = day_count-min in
    let days = days_in_year_bounds (neg_ℤ (pos 9999)) in
    let high = day_count-lt_year d.year d.month d.day (pos 9999) 1 1 (civil d) (omega arith) to in
    let most = day_count-year_bounds (pos 9999) (omega (arith, signed_arith), omega (arith, signed_arith)) in
    let last = days_in_year_bounds (pos 9999) in
    let number = days_from_civil-day_count d.year d.month d.day in
    let parts = civil_nanos-parts dt in
    let clock = time_nanos_bound dt.time in
    let shift = offset.in_range in
    (omega (arith, signed_arith, d.day_in.0), omega (arith, signed_arith, d.day_in.0))

pub early_in_range : (f : CivilFields) (offset : Offset) → AreCivil f → (pos 0 ≤ℤ f.year) × (f.year <ℤ pos 9999)
    → IsTimestampNanos (nanos_of_fields f -ℤ nanos_of_seconds offset.seconds)
early_in_range f offset h (from, to) =
    let (dt, same) = datetime_of f h in
    rw (civil_nanos-fields dt f same) at (in_range-years dt offset from to)

-- ---- a fold: the offset before it is ahead of the one after it, so it gives the earlier instant

-- what a fold goes back to is no further ahead than what it comes from
abbrev pub FoldsBack : AmbiguousOffset → Type 0
FoldsBack (Unambiguous offset) = ⊤
FoldsBack (Gap before after) = ⊤
FoldsBack (Fold before after) = after.seconds ≤ℤ before.seconds

behind : (std dst : Offset) (w : ℤ × ℤ) (at : ℤ) → dst.seconds ≤ℤ std.seconds
    → FoldsBack (Posix.ambiguous_behind std dst w at)
behind std dst w at h = grind arith

ahead : (std dst : Offset) (w : ℤ × ℤ) (at : ℤ) → std.seconds ≤ℤ dst.seconds
    → FoldsBack (Posix.ambiguous_ahead std dst w at)
ahead std dst w at h = grind arith

by_rule : (std dst : Offset) (w : ℤ × ℤ) (at : ℤ) → FoldsBack (Posix.ambiguous_by std dst w at)
by_rule std dst w at =
    either (int_lt dst.seconds std.seconds) _ _ (λ e. behind std dst w at (less _ _ e))
    (λ e. either (int_lt std.seconds dst.seconds) _ _ (λ e. ahead std dst w at (less _ _ e)) (λ e. tt))
  where
    either : (b : Bool) (x y : AmbiguousOffset) → (b ≡ true → FoldsBack x) → (b ≡ false → FoldsBack y)
        → FoldsBack (if b then x else y)
    either b x y h k = grind arith

    less : (a b : ℤ) → int_lt a b ≡ true → a ≤ℤ b
    less a b e = grind arith

of_rule : (std : Offset) (dst : Option Dst) (dt : DateTime) → FoldsBack (Posix.ambiguous_at_by std dst dt)
of_rule std None dt = tt
of_rule std (Some d) dt = by_rule std d.offset (
  Posix.rule_nanos dt.date.year d.rule.start (pos 0),
  Posix.rule_nanos dt.date.year d.rule.end (pos 0),
) (civil_nanos dt)

of_transition : (t : Transition) → FoldsBack (Table.offsets_in t)
of_transition t = grind arith

after_table : (rule : Option PosixZone) (offset : Offset) (dt : DateTime)
    → FoldsBack (match_some rule (Unambiguous offset) (λ tz. Posix.ambiguous_at tz dt))
after_table None offset dt = tt
after_table (Some tz) offset dt = of_rule tz.std_offset tz.dst dt

of_table : (z : Tzif) (dt : DateTime) → FoldsBack (Table.ambiguous_at z dt)
of_table z dt = grind (arith, of_transition, after_table)

-- a zone's fold goes back
pub zone_folds_back : (tz : TimeZone) (dt : DateTime) → FoldsBack (ambiguous_at tz dt)
unfolding ambiguous_at
zone_folds_back tz dt = grind (arith, of_rule, of_table)

-- the instant before a fold is the earlier of its two
pub earlier_in_fold : (tz : TimeZone) (dt : DateTime) (before after : Offset) → ambiguous_at tz dt ≡ Fold before after
    → instant_of dt before ≤ℤ instant_of dt after
earlier_in_fold tz dt before after e =
    let back : after.seconds ≤ℤ before.seconds = rw e at (zone_folds_back tz dt) in omega (arith, signed_arith)
