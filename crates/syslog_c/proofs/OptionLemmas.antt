-- The day and the zone that options name.
use Rattle.syslog_c.proofs.Words.{◌≡◌, ◌∙◌, ◌<◌, ◌∷◌, ◌++◌, [], ℕ, ℤ, ap, append-nil, arith, inl, inr, length}
use Rattle.syslog_c.proofs.Words.{refl, subst, sym, List, Option, Some, None, Result, Ok, Err, Options}
use Rattle.std.proofs.Common.{◌==◌, false, rules, if◌then◌else◌, ◌↔◌, ◌≢◌, get_or, pos, true≢false}
use Rattle.std.proofs.lemmas.Int.{ints}
use Rattle.std.proofs.lemmas.List.Elements.{All-head, All-nil, All-tail}
use Rattle.std.specs.Prelude.{IfOk, IsOk, MatchOption}
use Rattle.std.specs.Result.{OkIff, result_ok}
use Rattle.jiff.specs.Types.{Date, TimeZone}
use Rattle.jiff.specs.Words.{IsDate, IsOffsetSeconds, IsYmd, plain_zone}
use Rattle.jiff.specs.declared.tz.timezone.TimeZone.{TimeZone as Held}
use Rattle.syslog_lines.specs.Frames.{NoByte}
use Rattle.syslog_loose.specs.Reckoning.{IsZoneAt}
use Rattle.syslog_c.specs.Options.{IsTextIn, IsZoneBy, IsZoneOf}

-- a number of another type is the same number
pub converted : {E : Type 0} (P : Type 0) (r : Result ℤ E) (x v : ℤ) → Some x ≡ result_ok r → OkIff r P v → x ≡ v
converted P (Ok y) x v same fits = let is : x ≡ y = cc in is ∙ fits.1
converted P (Err fault) x v same fits = cc

-- a date of the calendar has a day that constructors take
is_date : (year : ℤ) (month day : ℕ) (date : Date) → IsYmd year (pos month) (pos day) date
    → IsDate year (pos month) (pos day)
is_date year month day date (same, of_year, of_month) =
    let month_is : date.month ≡ month = omega (arith, ints, of_year) in
    let day_is : date.day ≡ day = omega (arith, ints, of_month) in
    rw (sym same, sym month_is, sym day_is) (
      date.year_in,
      (omega (arith, ints, date.month_in.0), omega (arith, ints, date.month_in.1)),
      (omega (arith, ints, date.day_in.0), omega (arith, ints, date.day_in.1)),
    )

-- what a constructor of dates returns for such numbers
pub date_found : {E : Type 0} (year : ℤ) (month day : ℕ) (y m d : ℤ) (r : Result Date E) (found : Option Date)
    → found ≡ result_ok r → y ≡ year → m ≡ pos month → d ≡ pos day → IsOk r ↔ IsDate y m d → IfOk r (IsYmd y m d)
    → MatchOption found ((date : Date) → IsYmd year (pos month) (pos day) date → ⊥)
    (λ date. IsYmd year (pos month) (pos day) date)
date_found year month day y m d (Ok date) found same at_year at_month at_day there is =
    rw same (rw (at_year, at_month, at_day) at is)
date_found year month day y m d (Err fault) found same at_year at_month at_day there is = rw same (λ date named.
    absurd (true≢false (sym (there.1 (rw (at_year, at_month, at_day) (is_date year month day date named))))))

-- ---- the text in an array

-- the bytes before the first zero byte
abbrev before_zero : List ℕ → List ℕ
before_zero [] = []
before_zero (byte ∷ bytes) = if byte == 0 then [] else byte ∷ before_zero bytes

before_rest : (text rest : List ℕ) → NoByte 0 text → before_zero rest ≡ [] → before_zero (text ++ rest) ≡ text
before_rest [] rest free none = none
before_rest (byte ∷ text) rest free none =
    let apart : byte ≢ 0 = All-head (λ (b : ℕ). b ≢ 0) byte text free in
    let other : (byte == 0) ≡ false = search (rules, apart) in
    rw (other, before_rest text rest (All-tail (λ (b : ℕ). b ≢ 0) byte text free) none) refl

is_before_zero : (array text : List ℕ) → IsTextIn array text → before_zero array ≡ text
is_before_zero array text (free, inl same) =
    ap before_zero (same ∙ sym (append-nil text)) ∙ before_rest text [] free refl
is_before_zero array text (free, inr (after, same)) = ap before_zero same ∙ before_rest text (0 ∷ after) free refl

-- an array has one text
text_once : (array a b : List ℕ) → IsTextIn array a → IsTextIn array b → a ≡ b
text_once array a b is too = sym (is_before_zero array a is) ∙ is_before_zero array b too

-- an array that begins with a zero byte has no text
pub text_none : (array : List ℕ) → 0 < length array → get_or array 0 0 ≡ 0 → IsTextIn array []
text_none [] some zero = absurd (omega (arith, some))
text_none (byte ∷ after) some zero =
    (All-nil (λ (b : ℕ). b ≢ 0), inr (after, ap (λ (b : ℕ). b ∷ after) zero))

-- ---- zones

module _ (rule : List ℕ) (offset : ℤ) where
  -- there is no such zone, or it is this one
  abbrev pub NamesZone : Option Held → Type 0
  NamesZone found = MatchOption found ((zone : TimeZone) → IsZoneBy rule offset zone → ⊥)
      (λ it. IsZoneBy rule offset (plain_zone it))

-- without a rule it is the one at the offset
pub zone_at_offset : (rule : List ℕ) (offset : ℤ) (found : Option Held) → rule ≡ []
    → MatchOption found (IsOffsetSeconds offset → ⊥) (λ it. IsOffsetSeconds offset × IsZoneAt offset (plain_zone it))
    → NamesZone rule offset found
zone_at_offset [] offset (Some it) none is = is
zone_at_offset [] offset None none out = λ zone is. out is.0
zone_at_offset (byte ∷ more) offset found none is = absurd (omega (arith, ap length none))

-- the zone that options name, by the rule that is in their array
pub zone_named : (options : Options) (rule : List ℕ) (found : Option Held) → IsTextIn options.zone rule
    → NamesZone rule options.offset found
    → MatchOption found ((zone : TimeZone) → IsZoneOf options zone → ⊥) (λ it. IsZoneOf options (plain_zone it))
zone_named options rule (Some it) text is = (rule, text, is)
zone_named options rule None text none = λ zone named.
    none zone (subst (λ (t : List ℕ). IsZoneBy t options.offset zone)
    (text_once options.zone named.0 rule named.1 text) named.2)

-- without a rule it is the zone at the offset
pub zone_ahead_of : (options : Options) (zone : TimeZone) → 0 < length options.zone → get_or options.zone 0 0 ≡ 0
    → IsOffsetSeconds options.offset → IsZoneAt options.offset zone → IsZoneOf options zone
zone_ahead_of options zone some zero within is = ([], text_none options.zone some zero, (within, is))
