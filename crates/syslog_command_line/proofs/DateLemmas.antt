-- The word of a date.
use Rattle.syslog_command_line.proofs.Names.{length, get_or, MatchOption, Option, arith, subst, IsInRange, IsYear}
use Rattle.syslog_command_line.proofs.Names.{NamesDate, ◌≡◌, ◌≢◌, ◌∙◌, ℕ, ℤ, ◌<◌, ◌≤◌, Bor, List, [], ◌∷◌, ◌++◌, Some}
use Rattle.syslog_command_line.proofs.Names.{None, refl, sym}
use Rattle.std.proofs.Common.{suc, zero, ◌/◌, ◌%◌, ◌+◌, ◌↔◌, Result, Ok, Err, ap, pos, true≢false}
use Rattle.std.proofs.lemmas.Int.{ints}
use Rattle.std.specs.Prelude.{IfOk, IsOk}
use Rattle.std.specs.Result.{OkIff, result_ok}
use Rattle.jiff_core.proofs.CalendarLemmas.{days_in_month_bounds}
use Rattle.jiff.specs.Words.{IsDate, IsYmd}
use Rattle.std.proofs.lemmas.Str.Pattern.{IsSplitOnceResult, split_after, split_parts}
use Rattle.jiff.specs.Types.{Date}
use Rattle.syslog_loose.specs.declared.today.Today.{Today}
use Rattle.syslog_loose.specs.declared.today.Today.TheVariants.{Day, Month, Year}
use Rattle.syslog_command_line.specs.Arguments.{NamesYear, two_digits}

no_dash : (word : List ℕ) → IsYear word → (i : ℕ) → i < length word → get_or word i 0 ≢ 45
no_dash word is i within dash = let digit : IsInRange 48 57 (get_or word i 0) = is.2 i 0 within in
    omega (arith, digit.0)

dash_within : (xs ys : List ℕ) → ((i : ℕ) → i < length (xs ++ (45 ∷ ys)) → get_or (xs ++ (45 ∷ ys)) i 0 ≢ 45) → ⊥
dash_within [] ys none = none 0 (omega arith) refl
dash_within (x ∷ xs) ys none = dash_within xs ys (λ i within. none (suc i) (omega (arith, within)))

-- what the text after the year and its dash says
abbrev NamesAfter : List ℕ → List ℕ → Today → Type 0
NamesAfter front rest (Year year) = ⊥
NamesAfter front rest (Month year month) = NamesYear front year × (1 ≤ month) × (month ≤ 12) × (rest ≡ two_digits month)
NamesAfter front rest (Day day) =
    NamesYear front day.year × (rest ≡ two_digits day.month ++ (45 ∷ two_digits day.day))

-- a date, in the parts around its first dash
pub date_parts : (text : List ℕ) (parts : Option (Bor (List ℕ) × Bor (List ℕ))) (today : Today)
    → IsSplitOnceResult 45 text parts → NamesDate text today
    → MatchOption parts (IsYear text) (λ x. NamesAfter x.0.now x.1.now today)
date_parts text None (Year year) cut named = named.0
date_parts text (Some x) (Year year) cut named =
    let parts = split_parts 45 text (Some x) cut (omega arith) in
    dash_within x.0.now x.1.now (rw parts.0 at (no_dash text named.0))
date_parts text None (Month year n) cut (word, is, low, high, same) =
    absurd (split_after 45 text word (two_digits n) None cut (omega arith) same (no_dash word is.0))
date_parts text (Some x) (Month year n) cut (word, is, low, high, same) =
    let (front, rest) = split_after 45 text word (two_digits n) (Some x) cut (omega arith) same (no_dash word is.0) in
    (subst (λ (w : List ℕ). NamesYear w year) (sym front) is, low, high, rest)
date_parts text None (Day day) cut (word, is, same) =
    absurd (split_after 45 text word (two_digits day.month ++ (45 ∷ two_digits day.day)) None cut (omega arith) same
    (no_dash word is.0))
date_parts text (Some x) (Day day) cut (word, is, same) =
    let (front, rest) = split_after 45 text word (two_digits day.month ++ (45 ∷ two_digits day.day)) (Some x) cut
    (omega arith) same (no_dash word is.0) in
    (subst (λ (w : List ℕ). NamesYear w day.year) (sym front) is, rest)

pub year_before : (front rest : List ℕ) (today : Today) → NamesAfter front rest today → IsYear front
year_before front rest (Year year) after = absurd after
year_before front rest (Month year month) after = after.0.0
year_before front rest (Day day) after = after.0.0

digits_no_dash : (n : ℕ) → (i : ℕ) → i < 2 → get_or (two_digits n) i 0 ≢ 45
digits_no_dash n zero within = omega arith
digits_no_dash n (suc zero) within = omega arith
digits_no_dash n (suc (suc i)) within = absurd (omega (arith, within))

-- after the year a month is without a dash, and a day around one
pub month_after : (front rest : List ℕ) (today : Today) → IsSplitOnceResult 45 rest None → NamesAfter front rest today
    → (n : ℕ) × (1 ≤ n) × (n ≤ 12) × (rest ≡ two_digits n)
month_after front rest (Year year) cut after = absurd after
month_after front rest (Month year n) cut after = (n, after.1, after.2, after.3)
month_after front rest (Day day) cut after =
    absurd (split_after 45 rest (two_digits day.month) (two_digits day.day) None cut (omega arith) after.1
    (digits_no_dash day.month))

pub day_after : (front rest : List ℕ) (x : Bor (List ℕ) × Bor (List ℕ)) (today : Today)
    → IsSplitOnceResult 45 rest (Some x) → NamesAfter front rest today
    → (day : Date) × NamesYear front day.year × (x.0.now ≡ two_digits day.month) × (x.1.now ≡ two_digits day.day)
day_after front rest x (Year year) cut after = absurd after
day_after front rest x (Month year n) cut after =
    let parts = split_parts 45 rest (Some x) cut (omega arith) in
    absurd (dash_within x.0.now x.1.now
    (subst (λ (w : List ℕ). (i : ℕ) → i < length w → get_or w i 0 ≢ 45) (sym after.3 ∙ parts.0) (digits_no_dash n)))
day_after front rest x (Day day) cut after =
    let (month, number) = split_after 45 rest (two_digits day.month) (two_digits day.day) (Some x) cut (omega arith)
    after.1 (digits_no_dash day.month) in
    (day, after.0, month, number)

-- ---- a day, by the numbers of its month and its day

same_digits : (a b : ℕ) → two_digits a ≡ two_digits b → a < 100 → b < 100 → a ≡ b
same_digits a b same low high =
    let tens : 48 + a / 10 ≡ 48 + b / 10 = ap (λ (w : List ℕ). get_or w 0 0) same in
    let ones : 48 + a % 10 ≡ 48 + b % 10 = ap (λ (w : List ℕ). get_or w 1 0) same in
    omega (arith, tens, ones, low, high)

-- a number of another type is the same number
pub converted : {E : Type 0} (P : Type 0) (r : Result ℤ E) (x v : ℤ) → Some x ≡ result_ok r → OkIff r P v → x ≡ v
converted P (Ok y) x v same fits = let is : x ≡ y = cc in is ∙ fits.1
converted P (Err fault) x v same fits = cc

module _ (year : ℤ) (month day : ℕ) (month_text day_text : List ℕ)
    (named : (month < 100) × (month_text ≡ two_digits month)) (also : (day < 100) × (day_text ≡ two_digits day)) where
  -- the texts name this day
  abbrev IsNamed : Date → Type 0
  IsNamed date = (date.year ≡ year) × (month_text ≡ two_digits date.month) × (day_text ≡ two_digits date.day)

  is_named : (date : Date) → IsYmd year (pos month) (pos day) date → IsNamed date
  is_named date is =
      let month_is : date.month ≡ month = omega (arith, ints, is.1) in
      let day_is : date.day ≡ day = omega (arith, ints, is.2) in
      (is.0, named.1 ∙ ap two_digits (sym month_is), also.1 ∙ ap two_digits (sym day_is))

  has_date : (date : Date) → IsNamed date → IsDate year (pos month) (pos day)
  has_date date (same, month_shown, day_shown) =
      let few = (days_in_month_bounds date.year date.month).0 in
      let month_is : date.month ≡ month =
      same_digits date.month month (sym month_shown ∙ named.1) (omega (arith, date.month_in.1)) named.0 in
      let day_is : date.day ≡ day =
      same_digits date.day day (sym day_shown ∙ also.1) (omega (arith, date.day_in.1, few)) also.0 in
      rw (sym same, sym month_is, sym day_is) (
        date.year_in,
        (omega (arith, ints, date.month_in.0), omega (arith, ints, date.month_in.1)),
        (omega (arith, ints, date.day_in.0), omega (arith, ints, date.day_in.1)),
      )

  pub day_named : {E : Type 0} (y m d : ℤ) (r : Result Date E) (found : Option Date) → found ≡ result_ok r → y ≡ year
      → m ≡ pos month → d ≡ pos day → IsOk r ↔ IsDate y m d → IfOk r (IsYmd y m d)
      → MatchOption found
      ((date : Date) → date.year ≡ year → month_text ≡ two_digits date.month → day_text ≡ two_digits date.day → ⊥)
      (λ date. (date.year ≡ year) × (month_text ≡ two_digits date.month) × (day_text ≡ two_digits date.day))
  day_named y m d (Ok date) found same at_year at_month at_day there is =
      rw same (is_named date (rw (at_year, at_month, at_day) at is))
  day_named y m d (Err fault) found same at_year at_month at_day there is = rw same (λ date of_year shown also_shown.
      absurd (true≢false (sym (there.1 (rw (at_year, at_month, at_day) (has_date date (of_year, shown, also_shown)))))))

-- its word, in the parts around its two dashes
pub word_of_day : (text : List ℕ) (x y : Bor (List ℕ) × Bor (List ℕ)) (day : Date) → IsSplitOnceResult 45 text (Some x)
    → IsSplitOnceResult 45 x.1.now (Some y) → NamesYear x.0.now day.year → y.0.now ≡ two_digits day.month
    → y.1.now ≡ two_digits day.day → NamesDate text (Day day)
word_of_day text x y day cut again is month number =
    let whole = (split_parts 45 text (Some x) cut (omega arith)).0 in
    let rest = (split_parts 45 x.1.now (Some y) again (omega arith)).0 in
    let shown : y.0.now ++ (45 ∷ y.1.now) ≡ two_digits day.month ++ (45 ∷ two_digits day.day) =
    rw (month, number) refl in
    (x.0.now, is, whole ∙ ap (λ (w : List ℕ). x.0.now ++ (45 ∷ w)) (rest ∙ shown))
