-- A converted value, unit by unit: it is a value of the grammar, means what the value meant, and is converted to
-- itself.
use Rattle.syslog_strict.proofs.Words.{◌≡◌, ◌∷◌, ◌∙◌, ℕ, Bool, true, false, List, [], inl, inr, refl, sym, ap, nat_eq}
use Rattle.syslog_strict.proofs.Words.{append-nil, arith, cases_Bool, nat_tests, flat_map, AllByRecursion, Text}
use Rattle.syslog_strict.proofs.Words.{all_map, escaped_from, is_escaped, ◌||◌, Each, is_inert_char, ◌++◌}
use Rattle.std.proofs.lemmas.Bool.{ne_eqb, cases_eq}
use Rattle.syslog_elements.specs.StructuredData.{IsValue, IsValueUnit as IsReadUnit}
use Rattle.syslog_elements.specs.StructuredData.Escapes.{TextUnit, pair, single, unit_text, unit_meaning, IsUnit}
use Rattle.syslog_elements.specs.StructuredData.Escapes.{IsUnescaped, pair_meaning}
use Rattle.syslog_strict.proofs.GrammarLemmas.{IsParamValue}
use Rattle.syslog_strict.specs.{Conversion.converted_value, Grammar.IsValueUnit, Value.meaning, Value.meant_from}

escaped_pair : (c : ℕ) → is_escaped c ≡ true → pair_meaning c ≡ c ∷ []
escaped_pair c h = elim (cases_eq c 110) [
  | inl feed ↦ absurd (let t = rw feed at h in cc)
  | inr other ↦ simp (ne_eqb c 110 other, h)
]

-- the units of the grammar are the text, and mean this
abbrev IsSplit : Text → Text → Type 0
IsSplit text means = (units : List TextUnit) × (text ≡ flat_map unit_text units)
    × (means ≡ flat_map unit_meaning units) × AllByRecursion IsValueUnit units

on_pair : (c : ℕ) {t m : Text} → is_escaped c ≡ true → IsSplit t m → IsSplit (92 ∷ c ∷ t) (c ∷ m)
on_pair c h (units, e, f, each) = (
  pair c ∷ units,
  ap (λ (x : Text). 92 ∷ c ∷ x) e,
  rw (escaped_pair c h) (ap (λ (x : Text). c ∷ x) f),
  (h, each),
)

on_single : (c : ℕ) {t m : Text} → is_escaped c ≡ false → IsSplit t m → IsSplit (c ∷ t) (c ∷ m)
on_single c h (units, e, f, each) =
    (single c ∷ units, ap (λ (x : Text). c ∷ x) e, ap (λ (x : Text). c ∷ x) f, (h, each))

splits : (before : Bool) (t : Text) → IsSplit (escaped_from before t) (meant_from before t)
splits false [] = ([], refl, refl, tt)
splits true [] = (pair 92 ∷ [], refl, refl, (refl, tt))
splits false (c ∷ t) = elim (cases_Bool (nat_eq c 92)) [
  | inl slash ↦ rw slash (splits true t)
  | inr other ↦ elim (cases_Bool (nat_eq c 34 || nat_eq c 93)) [
    | inl mark ↦ simp (other, mark) (on_pair c (simp (other, mark)) (splits false t))
    | inr none ↦ simp (other, none) (on_single c (simp (other, none)) (splits false t))
  ]
]
splits true (c ∷ t) = elim (cases_Bool (is_escaped c)) [
  | inl mark ↦ rw mark (on_pair c mark (splits false t))
  | inr none ↦ rw none (on_pair 92 refl (on_single c none (splits false t)))
]

-- such units stay, and are read as what they mean
stays : (units : List TextUnit) → AllByRecursion IsValueUnit units
    → (escaped_from false (flat_map unit_text units) ≡ flat_map unit_text units)
    × (meant_from false (flat_map unit_text units) ≡ flat_map unit_meaning units)
stays [] each = (refl, refl)
stays (pair c ∷ units) each = let (e, f) = stays units each.1 in (
  rw (each.0) (ap (λ (x : Text). 92 ∷ c ∷ x) e),
  rw (escaped_pair c each.0, each.0) (ap (λ (x : Text). c ∷ x) f),
)
stays (single c ∷ units) each =
    let (e, f) = stays units each.1 in
    let slash : nat_eq c 92 ≡ false = grind (arith, nat_tests, each.0) in
    (rw (each.0, slash) (ap (λ (x : Text). c ∷ x) e), rw slash (ap (λ (x : Text). c ∷ x) f))

pub value_is : (t : Text) → IsParamValue (converted_value t)
value_is t = let (units, e, _, each) = splits false t in (units, e, each)

pub value_same : (t : Text) → IsParamValue t → converted_value t ≡ t
value_same t (units, e, each) = ap converted_value e ∙ (stays units each).0 ∙ sym e

pub value_keeps_its_meaning : (t : Text) → meaning (converted_value t) ≡ meaning t
value_keeps_its_meaning t =
    let (units, e, f, each) = splits false t in ap meaning e ∙ (stays units each).1 ∙ sym f

pub converted_is_unescaped : (t : Text) → IsUnescaped (converted_value t) (meaning t)
converted_is_unescaped t =
    let (units, e, f, each) = splits false t in
    record {
      units = units;
      lone = false;
      split = record { whole = e ∙ sym (append-nil (flat_map unit_text units)); each = all_map unit_is units each };
      means = f;
    }
  where
    unit_is : (u : TextUnit) → IsValueUnit u → IsUnit u
    unit_is (pair c) h = tt
    unit_is (single c) h = λ e. (let t = rw e at h in cc)

-- a value of the grammar is one that is read
pub value_back : (t : Text) → IsParamValue t → IsValue t
value_back t (units, e, each) = (units, e, all_map unit_back units each)
  where
    unit_back : (u : TextUnit) → IsValueUnit u → IsReadUnit u
    unit_back (pair c) h = tt
    unit_back (single c) h = (grind (arith, nat_tests), grind (arith, nat_tests))

-- plain characters stay
pub value_run : (w t : Text) → Each is_inert_char w → converted_value (w ++ t) ≡ w ++ converted_value t
value_run [] t each = refl
value_run (c ∷ w) t each =
    let slash : nat_eq c 92 ≡ false = grind (arith, nat_tests, each.0) in
    let plain : is_escaped c ≡ false = grind (arith, nat_tests, each.0) in
    rw (plain, slash) (ap (λ (x : Text). c ∷ x) (value_run w t each.1))
