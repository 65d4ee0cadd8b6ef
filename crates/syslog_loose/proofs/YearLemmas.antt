-- The last year that puts a date on a day or before it.
use Rattle.std.proofs.Common.{rules, ◌≡◌, ℕ, ℤ, ◌+◌, ◌-◌, ◌%◌, ◌≤◌, zero, suc, negsuc, ◌<ℤ◌, ◌≤ℤ◌, ◌+ℤ◌, Bool, true}
use Rattle.std.proofs.Common.{inl, inr, ◌⊎◌, ◌==◌, refl, pos, arith, ◌&&◌, ◌||◌, not, subst, ◌∙◌, Ordering, Less, Equal}
use Rattle.std.proofs.{Common.Greater, Common.int_cmp, Common.is_le, Common.◌↔◌, lemmas.Int.by_lt_z, lemmas.Int.ints}
use Rattle.std.{proofs.lemmas.Bool.cases_lt, specs.Cmp.int_ranks, specs.Ordering.MatchOrdering}
use Rattle.jiff.proofs.Family.{epoch_day_range, epoch_day-lt}
use Rattle.jiff.{proofs.SpanFacts.signed_arith, specs.Types.Date}
use Rattle.jiff.specs.Words.{IsYear, IsYmd, days_in_month, epoch_day, is_leap_year}
use Rattle.syslog_loose.specs.Reckoning.{IsDateBy}

-- ---- leap years

abbrev is_leap : ℕ → Bool
is_leap n = (n % 4 == 0) && (not (n % 100 == 0) || (n % 400 == 0))

-- of two years four apart that are divided by 4, one is a leap year
one_of_two : (n : ℕ) → n % 4 ≡ 0 → (is_leap n ≡ true) ⊎ (is_leap (n + 4) ≡ true)
one_of_two n four = search rules

abbrev LeapBefore : ℤ → Type 0
LeapBefore y = (z : ℤ) × (y ≤ℤ (z +ℤ pos 8)) × (z <ℤ y) × (is_leap_year z ≡ true)

-- one of the eight years before is a leap year
leap_before : (y : ℤ) → LeapBefore y
leap_before (pos zero) = (negsuc 3, omega (arith, ints), omega (arith, ints), refl)
leap_before (pos (suc n)) = elim (cases_lt n 4) [
  | inl few ↦ (pos 0, omega (arith, ints, few), omega (arith, ints, few), refl)
  | inr many ↦
      let m = n - n % 4 - 4 in
      elim (one_of_two m (omega (arith, many))) [
        | inl leap ↦ (pos m, omega (arith, ints, many), omega (arith, ints, many), leap)
        | inr leap ↦ (pos (m + 4), omega (arith, ints, many), omega (arith, ints, many), leap)
      ]
]
leap_before (negsuc n) =
    let m = n + 4 - (n + 1) % 4 in
    let same : suc m + 4 ≡ suc (m + 4) = omega arith in
    elim (one_of_two (suc m) (omega arith)) [
      | inl leap ↦ (negsuc m, omega (arith, ints), omega (arith, ints), leap)
      | inr leap ↦ (negsuc (m + 4), omega (arith, ints), omega (arith, ints), subst (λ k. is_leap k ≡ true) same leap)
    ]

-- which has as many days in each month as any year
longest_months : (y z : ℤ) (month : ℕ) → is_leap_year z ≡ true → days_in_month y month ≤ days_in_month z month
longest_months y z month leap = rw leap (grind arith)

-- ---- dates

-- no year after that of the limit puts a date before it
pub none_after : (limit : Date) (year : ℤ) (month day : ℕ) → limit.year <ℤ year
    → ¬ (IsDateBy (epoch_day limit) year month day)
none_after limit year month day after (it, is, by) =
    let later : epoch_day limit <ℤ epoch_day it = epoch_day-lt limit it (inl (rw is.0 after)) in
    omega (arith, signed_arith, later, by)

-- the date in a leap year
in_leap_year : (it : Date) (z : ℤ) → is_leap_year z ≡ true → IsYear z
    → (other : Date) × IsYmd z (pos it.month) (pos it.day) other
in_leap_year it z leap in_range = (
  record {
    year = z;
    month = it.month;
    day = it.day;
    year_in = in_range;
    month_in = it.month_in;
    day_in = (it.day_in.0, omega (arith, it.day_in.1, longest_months it.year z it.month leap));
  },
  (refl, refl, refl),
)

-- if none of the last years does, no year does
pub none_before : (limit : Date) (month day : ℕ)
    → ((year : ℤ) → limit.year <ℤ (year +ℤ pos 9) → ¬ (IsDateBy (epoch_day limit) year month day))
    → (year : ℤ) → ¬ (IsDateBy (epoch_day limit) year month day)
none_before limit month day none year (it, is, by) =
    by_lt_z limit.year (year +ℤ pos 9) (λ near. none year near (it, is, by)) (λ far.
    let (z, near, before, leap) = leap_before limit.year in
    let first = it.year_in.0 in
    let last = limit.year_in.1 in
    let in_range : IsYear z =
    (omega (arith, signed_arith, is.0, first, far, near), omega (arith, signed_arith, last, before)) in
    let (other, same) = in_leap_year it z leap in_range in
    let earlier : epoch_day other <ℤ epoch_day limit = epoch_day-lt other limit (inl (rw same.0 before)) in
    none z (omega (arith, signed_arith, near))
    (other, (same.0, same.1 ∙ is.1, same.2 ∙ is.2), omega (arith, signed_arith, earlier)))

-- a date of the calendar is no later than its last day
pub last_day : (it : Date) → epoch_day it ≤ℤ pos 2_932_896
last_day it = (epoch_day_range it).1

-- ---- the order of whole numbers

ranked_le : (r : Ordering) (x y : ℤ) → MatchOrdering r (x <ℤ y) (x ≡ y) (y <ℤ x) → (is_le r ≡ true) ↔ (x ≤ℤ y)
ranked_le Less x y less = (λ on. omega (arith, signed_arith, less), λ le. refl)
ranked_le Equal x y same = (λ on. omega (arith, signed_arith, same), λ le. refl)
ranked_le Greater x y more = (λ on. cc, λ le. absurd (omega (arith, signed_arith, more, le)))

pub le_iff : (x y : ℤ) → (is_le (int_cmp x y) ≡ true) ↔ (x ≤ℤ y)
le_iff x y = ranked_le (int_cmp x y) x y (int_ranks x y)
