-- Values, ids of elements, and the ids that were seen.
use Rattle.syslog_strict.proofs.Words.{◌≡◌, ◌≢◌, inl, inr, ℕ, ◌<◌, ◌≤◌, Bool, true, false, List, [], ◌∷◌, ◌++◌, length}
use Rattle.syslog_strict.proofs.Words.{map, refl, sym, ap, ap₂, subst, ◌∙◌, arith, cond, Bor, IsUtf8, AllByRecursion}
use Rattle.syslog_strict.proofs.Words.{AreDistinct, nat_tests, Text, Each, Ends, shown, text_eq, ElementValue, chars}
use Rattle.syslog_strict.proofs.Words.{SplitsRun, is_inert_char, is_among, HasSeen, is_escaped, cases_Bool, ids_of}
use Rattle.syslog_strict.proofs.Words.{◌||◌}
use Rattle.syslog_strict.proofs.ElementLemmas.{firsts_distinct, firsts_last, firsts_same, ids_last, bytes_text}
use Rattle.syslog_strict.proofs.ElementLemmas.{last_among, put}
use Rattle.syslog_strict.specs.Grammar.{AreElements, escape, sd_element, sd_elements, value_unit}
use Rattle.std.proofs.{Common.is_eq, lemmas.Bool.or_from, lemmas.Bool.or_parts, lemmas.Map.Text.is_eq-slice_cmp}
use Rattle.std.specs.{BTreeSet.contains, Cmp.Lexicographic.slice_cmp, Ordering.nat_cmp}
use Rattle.std.specs.Prelude.{not, MatchBool, ◌↔◌}
use Rattle.syslog_text.specs.{Pieces.Class.Front, Pieces.Class.NoFront, Pieces.Lists.many}
use Rattle.syslog_elements.specs.StructuredData.Escapes.{TextUnit, pair, single}
use Rattle.syslog_pieces.proofs.Names.{not-false, not-true}
use Rattle.syslog_text.proofs.PieceLemmas.Class.{front_of, piece_front}
use Rattle.syslog_text.proofs.PieceLemmas.Rules.{Runs, many_left, no_run, one_run, runs_left}
use Rattle.syslog_strict.proofs.GrammarLemmas.{element_det}
use Rattle.syslog_strict.proofs.NameLemmas.{no_text, no_text_eq, text_eq_true}
use Rattle.syslog_strict.specs.declared.ids.Ids.{Ids}

-- ---- values

plain_runs : (w t : Text) → Each is_inert_char w → (units : List TextUnit) × Runs value_unit (w ++ t) units t
plain_runs [] t each = ([], no_run)
plain_runs (c ∷ w) t each =
    let (units, r) = plain_runs w t each.1 in
    let plain : is_escaped c ≡ false = grind (arith, nat_tests, each.0) in
    (single c ∷ units, one_run (piece_front value_unit (c ∷ []) (w ++ t) (single c) (refl, plain)) r)

pub split_runs : {bs xs ys : List ℕ} → SplitsRun is_inert_char bs xs ys
    → (units : List TextUnit) × Runs value_unit (chars bs) units (chars ys)
split_runs {xs = xs} {ys = ys} s = let (units, r) = plain_runs (chars xs) (chars ys) s.each in
    (units, subst (λ (x : Text). Runs value_unit x units (chars ys)) (sym s.characters) r)

pub no_unit_after : (t : Text) → Ends is_inert_char t → NoFront escape t → NoFront value_unit t
no_unit_after t ends n p q (pair d) e h = n p q d e h
no_unit_after t ends n p q (single d) e (f, is) =
    let other : is_inert_char d ≡ false = subst (Ends is_inert_char) (e ∙ ap (λ (x : Text). x ++ q) f) ends in
    grind (arith, nat_tests)

-- ---- ids

pub none_tells : (id : Text) (ids : List Text) → is_among id ids ≡ false ↔ AllByRecursion (λ u. u ≢ id) ids
none_tells id [] = (λ h. tt, λ h. refl)
none_tells id (t ∷ ts) = let (to, from) = none_tells id ts in (
  (λ h. let (other, more) = or_parts (text_eq t id) (is_among id ts) h in (no_text_eq t id other, to more)),
  (λ (other, more). or_from (text_eq t id) (is_among id ts) (no_text t id other) (from more)),
)

-- the later ids are distinct, and the first one of them comes once
pub later : (es us : List ElementValue) → AreDistinct (ids_of (es ++ us)) → AreDistinct (ids_of us)
later [] us apart = apart
later (e ∷ es) us apart = later es us apart.1

-- an id that came before comes twice
pub repeated : (es us : List ElementValue) (e : ElementValue) → is_among e.id (ids_of es) ≡ true
    → AreDistinct (ids_of (es ++ e ∷ us)) → ⊥
repeated [] us e h apart = let no : false ≡ true = h in absurd cc
repeated (d ∷ es) us e h apart = elim (cases_Bool (text_eq d.id e.id)) [
  | inl same ↦ there es apart.0 (sym (text_eq_true d.id e.id same))
  | inr other ↦ repeated es us e (rw other at h) apart.1
]
  where
    there : (xs : List ElementValue) → AllByRecursion (λ u. u ≢ d.id) (ids_of (xs ++ e ∷ us)) → e.id ≢ d.id
    there [] each = each.0
    there (x ∷ xs) each = there xs each.1

-- a new one doesn't
pub distinct_more : (es : List ElementValue) (e : ElementValue) → AreDistinct (ids_of es)
    → is_among e.id (ids_of es) ≡ false → AreDistinct (ids_of (es ++ e ∷ []))
distinct_more es e apart new = rw (ids_last es e) (subst AreDistinct
    (firsts_last (ids_of es) e.id ∙ rw (new, firsts_same (ids_of es) apart) refl)
    (firsts_distinct (ids_of es ++ e.id ∷ [])))

-- an element whose id comes again among those after it: then those at the front are not distinct
pub repeats : {t s u : Text} {e : ElementValue} {id : Text} (es : List ElementValue) → Runs sd_element t es s
    → e.id ≡ id
    → Front sd_element s u e → ((q : Text) (us : List ElementValue) → Front (many sd_element) u q us
    → is_among id (ids_of us) ≡ true)
    → NoFront sd_elements t
repeats es r same f again p q ws e (h, (some, apart)) =
    let (us, first, others) = runs_left element_det ws r (front_of p e h) in
    let (vs, second, more) = many_left element_det us f others in
    let (each, _) = later es _ (subst (λ (x : List ElementValue). AreDistinct (ids_of x))
    (first ∙ ap (λ (x : List ElementValue). es ++ x) second) apart) in
    let none = (none_tells _ (ids_of vs)).1 (subst (λ (x : Text). AllByRecursion (λ u. u ≢ x) (ids_of vs)) same each) in
    let some = again q vs more in cc

-- one whose id came before
pub came : {t s u : Text} {e : ElementValue} {id : Text} (es : List ElementValue) → Runs sd_element t es s → e.id ≡ id
    → Front sd_element s u e → is_among id (ids_of es) ≡ true → NoFront sd_elements t
came {e = d} es r same f old p q ws e (h, (some, apart)) =
    let (us, first, others) = runs_left element_det ws r (front_of p e h) in
    let (vs, second, more) = many_left element_det us f others in
    repeated es vs d (ap (λ (x : Text). is_among x (ids_of es)) same ∙ old)
    (subst (λ (x : List ElementValue). AreDistinct (ids_of x))
    (first ∙ ap (λ (x : List ElementValue). es ++ x) second) apart)

-- one whose id doesn't come again
pub fresh : (e : ElementValue) {id : Text} → e.id ≡ id → (us : List ElementValue) → is_among id (ids_of us) ≡ false
    → AreDistinct (ids_of us) → AreDistinct (ids_of (e ∷ us))
fresh e same us new apart =
    (subst (λ (x : Text). AllByRecursion (λ u. u ≢ x) (ids_of us)) (sym same) ((none_tells _ (ids_of us)).0 new), apart)

-- whether there is an element, where all are distinct
pub has_some : (b : Bool) (es : List ElementValue) → MatchBool b (0 < length es) (es ≡ []) → AreDistinct (ids_of es)
    → MatchBool b (AreElements es) (AreElements es → ⊥)
has_some true es some apart = (some, apart)
has_some false es none apart = λ h. (let k = h.0 in omega (arith, ap length none))

pub still_some : (es us : List ElementValue) → 0 < length es → 0 < length (es ++ us)
still_some [] us h = absurd (omega arith)
still_some (e ∷ es) us h = omega arith

-- the first id of all is new
pub first_seen : (is_new : Bool) {P : Type 0} → MatchBool is_new ((false ≡ false) × P) (false ≡ true) → P
first_seen true h = h.1
first_seen false h = absurd cc

-- ---- a set of ids, as the texts that came before

right_is : (a b c : Bool) → (a || b) ≡ c → a ≡ false → b ≡ c
right_is a b c e f = grind arith

pub seen_none : (ids : Ids) → ids.few.items ≡ [] → ids.many.keys ≡ [] → HasSeen ids []
seen_none ids e f = record { first = λ few. f; same = λ id u. rw (e, f) refl }

module _ (old new : Ids) (seen : List Text) (id : Bor (List ℕ)) (u : IsUtf8 id.now) (h : HasSeen old seen) where
  seen_other : false ≡ is_among (shown id) (map (λ s. shown s) old.few.items)
      → contains (λ x y. slice_cmp nat_cmp x.now y.now) old.many id ≡ is_among (shown id) seen
  seen_other e = right_is _ _ _ (h.same id u) (sym e)

  seen_many : 8 ≤ length old.few.items → new.few ≡ old.few
      → ((k : Bor (List ℕ)) → contains (λ x y. slice_cmp nat_cmp x.now y.now) new.many k
      ≡ cond (is_eq (slice_cmp nat_cmp id.now k.now)) true (contains (λ x y. slice_cmp nat_cmp x.now y.now) old.many k))
      → HasSeen new (seen ++ shown id ∷ [])
  seen_many full kept updated = record {
    first = λ more. absurd (let same = ap (λ f. length f.items) kept in omega arith);
    same = λ k v. ap₂ (λ f (b : Bool). is_among (shown k) (map (λ s. shown s) f.items) || b) kept
        (updated k ∙ ap (λ (x : Bool). cond x true (contains (λ x y. slice_cmp nat_cmp x.now y.now) old.many k))
        (is_eq-slice_cmp id.now k.now ∙ bytes_text id.now k.now u v))
        ∙ put (is_among (shown k) (map (λ s. shown s) old.few.items))
        (contains (λ x y. slice_cmp nat_cmp x.now y.now) old.many k) (text_eq (shown id) (shown k))
        ∙ ap (λ (x : Bool). x || (text_eq (shown id) (shown k) || false)) (h.same k v)
        ∙ sym (last_among (shown k) (shown id) seen);
  }

  pub seen_put : (is_new : Bool) → is_new ≡ not (contains (λ x y. slice_cmp nat_cmp x.now y.now) old.many id)
      → false ≡ is_among (shown id) (map (λ s. shown s) old.few.items) → 8 ≤ length old.few.items → new.few ≡ old.few
      → ((k : Bor (List ℕ)) → contains (λ x y. slice_cmp nat_cmp x.now y.now) new.many k
      ≡ cond (is_eq (slice_cmp nat_cmp id.now k.now)) true (contains (λ x y. slice_cmp nat_cmp x.now y.now) old.many k))
      → MatchBool is_new ((is_among (shown id) seen ≡ false) × HasSeen new (seen ++ shown id ∷ []))
      (is_among (shown id) seen ≡ true)
  seen_put true e other full kept updated = (sym (seen_other other) ∙ not-true _ (sym e), seen_many full kept updated)
  seen_put false e other full kept updated = sym (seen_other other) ∙ not-false _ (sym e)
