-- Texts split into units in one way, escapes, and the texts and the equality of elements.
use Rattle.syslog_elements.proofs.Names.{nil_from_length, arith, take-append-drop, encode_utf8_all, IsUtf8-string_bytes}
use Rattle.syslog_elements.proofs.Names.{[], ElementValue, AllByRecursion, sum_by-append, element_texts, encodes-append}
use Rattle.syslog_elements.proofs.Names.{full_element, flat_map, rfc3164_list, counts_agree, list_all-map, is_bare_char}
use Rattle.syslog_elements.proofs.Names.{map-append, element_row, elements_or, append_assoc, chars-append, is_name_char}
use Rattle.syslog_elements.proofs.Names.{length-drop, param_value, param_count, same_params, sum_by-cons, IsUnescaped}
use Rattle.syslog_elements.proofs.Names.{chars, one_answer, all_append, cases_Bool, is_id_char, element_of, IsValueUnit}
use Rattle.syslog_elements.proofs.Names.{eqb_tells, nat_tests, unit_text, SplitsRun, length-map, param_text, append-nil}
use Rattle.syslog_elements.proofs.Names.{Bool, param_row, chars-nil, TextUnit, some_run, optional, forgiving, take_more}
use Rattle.syslog_elements.proofs.Names.{exactly, param_of, is_blank, DashRule, count_by, take_all, list_all, param_eq}
use Rattle.syslog_elements.proofs.Names.{Result, IsUtf8, single, String, Option, element, all_map, ap, escaped, IsValue}
use Rattle.syslog_elements.proofs.Names.{Values, mapped, IsMany, IsMore, IsList, strict, ◌also◌, length, get_or, nat_eq}
use Rattle.syslog_elements.proofs.Names.{true, cond, List, ◌++◌, refl, IfOk, is_ok, Class, param, Text, ℕ, false, subst}
use Rattle.syslog_elements.proofs.Names.{◌≡◌, ◌≢◌, inl, inr, ◌∷◌, sym, Each, Ends, pair, item, Some, None, take, drop}
use Rattle.syslog_elements.proofs.Names.{◌∙◌, Err, Ok, ◌↔◌, Bor, Row, run, ◌+◌, ◌<◌, map, ◌-◌}
use Rattle.std.{proofs.lemmas.Grind.put_two, specs.Char.encode_utf8, specs.Global.Global, specs.Iterator.Drains}
use Rattle.std.specs.declared.alloc.AllocError.{AllocError}
use Rattle.syslog_elements.specs.StructuredData.Escapes.{IsUnit, IsUnquoted, lone_backslash, SplitsUnits, is_escaped}
use Rattle.syslog_elements.specs.StructuredData.Escapes.{MeansFirst, pair_meaning, unit_meaning}
use Rattle.syslog_elements.specs.StructuredData.Params.{NextParam, AreParamItems}
use Rattle.syslog_text.{proofs.TextLemmas.Words.encodes_shown, specs.Pieces.Parts.IsPart}
use Rattle.syslog_elements.specs.StructuredData.EqualLaws.{Param, param_eq-same, counts_agree-at, counts_agree-from}
use Rattle.syslog_elements.specs.StructuredData.EqualLaws.{same_params-counts, same_params-from, same_params-decides}
use Rattle.syslog_elements.specs.StructuredData.EqualLaws.{counts_of_permutation, permuted, length_of_counts}
use Rattle.syslog_text.proofs.PieceLemmas.Lists.{Quotes, Quoted, row_texts, row_quotes, part_same, part_left}
use Rattle.syslog_text.proofs.PieceLemmas.Lists.{part_right, part_joined, silent, texted_quotes}
pub use Rattle.std.proofs.lemmas.Bool.{cases_Bool as decide}

-- ---- a text has one split

-- a text begins with one unit at most, where no backslash is a single character
module _ (P : TextUnit → Type 0) (bare : (c : ℕ) → P (single c) → c ≢ 92) where
  pub unit_same : (u v : TextUnit) (s t : Text) → P u → P v → unit_text u ++ s ≡ unit_text v ++ t → (u ≡ v) × (s ≡ t)
  unit_same (pair c) (pair d) s t h k e = (let i : c ≡ d = cc in cc, cc)
  unit_same (pair c) (single d) s t h k e = absurd (bare d k (cc))
  unit_same (single c) (pair d) s t h k e = absurd (bare c h (cc))
  unit_same (single c) (single d) s t h k e = (let i : c ≡ d = cc in cc, cc)

  -- and with one list of units, where what follows it begins with none
  module _ (E : Text → Type 0) (ends : (u : TextUnit) (t : Text) → P u → E (unit_text u ++ t) → ⊥) where
    pub units_same : (us vs : List TextUnit) (s t : Text) → AllByRecursion P us → AllByRecursion P vs → E s → E t
        → flat_map unit_text us ++ s ≡ flat_map unit_text vs ++ t → (us ≡ vs) × (s ≡ t)
    units_same [] [] s t h k x y e = (refl, e)
    units_same [] (v ∷ vs) s t h k x y e = absurd (ends v _ k.0 (subst E (e ∙ append_assoc (unit_text v) _ t) x))
    units_same (u ∷ us) [] s t h k x y e = absurd (ends u _ h.0 (subst E (sym e ∙ append_assoc (unit_text u) _ s) y))
    units_same (u ∷ us) (v ∷ vs) s t h k x y e =
        let i = unit_same u v (flat_map unit_text us ++ s) (flat_map unit_text vs ++ t) h.0 k.0
        (sym (append_assoc (unit_text u) _ s) ∙ e ∙ append_assoc (unit_text v) _ t) in
        let j = units_same us vs s t h.1 k.1 x y i.1 in
        (let a = i.0 in let b = j.0 in cc, j.1)

abbrev IsLone : Text → Type 0
IsLone t = (k : Bool) × (t ≡ lone_backslash k)

no_lone_unit : (u : TextUnit) (t : Text) → IsUnit u → IsLone (unit_text u ++ t) → ⊥
no_lone_unit (pair c) t h (true, e) = cc
no_lone_unit (pair c) t h (false, e) = cc
no_lone_unit (single c) t h (true, e) = h (cc)
no_lone_unit (single c) t h (false, e) = cc

pub split_one : (text : Text) (us vs : List TextUnit) (k l : Bool) → SplitsUnits text us k → SplitsUnits text vs l
    → (us ≡ vs) × (k ≡ l)
split_one text us vs k l s t =
    let (units, rest) = units_same IsUnit (λ c h. h) IsLone no_lone_unit us vs _ _ s.each t.each (k, refl) (l, refl)
    (sym s.whole ∙ t.whole) in
    (units, grind (arith, rest))

split_cons : (u : TextUnit) {text : Text} (us : List TextUnit) (k : Bool) → IsUnit u → SplitsUnits text us k
    → SplitsUnits (unit_text u ++ text) (u ∷ us) k
split_cons u us k h s = record {
  whole = ap (λ (x : Text). unit_text u ++ x) s.whole
      ∙ sym (append_assoc (unit_text u) (flat_map unit_text us) (lone_backslash k));
  each = (h, s.each);
}

abbrev HasSplit : Text → Type 0
HasSplit text = (us : List TextUnit) × (lone : Bool) × SplitsUnits text us lone

split_on : (u : TextUnit) (text : Text) → IsUnit u → HasSplit text → HasSplit (unit_text u ++ text)
split_on u text h (us, k, s) = (u ∷ us, k, split_cons u us k h s)

pub split_there : (text : Text) → HasSplit text
split_there [] = ([], false, record { whole = refl; each = tt })
split_there (c ∷ []) = elim (eqb_tells c 92) [
  | inl r ↦ rw r.1 ([], true, record { whole = refl; each = tt })
  | inr r ↦ split_on (single c) [] r.1 ([], false, record { whole = refl; each = tt })
]
split_there (c ∷ d ∷ text) = elim (eqb_tells c 92) [
  | inl r ↦ rw r.1 (split_on (pair d) text tt (split_there text))
  | inr r ↦ split_on (single c) (d ∷ text) r.1 (split_there (d ∷ text))
]

-- ---- escaped texts
escaped_pair : (c : ℕ) → is_escaped c ≡ true → pair_meaning c ≡ c ∷ []
escaped_pair c e = grind (arith, nat_tests)

unescaped_on : (u : TextUnit) {t w : Text} → IsUnit u → IsUnescaped t w
    → IsUnescaped (unit_text u ++ t) (unit_meaning u ++ w)
unescaped_on u h i = record {
  units = u ∷ i.units;
  lone = i.lone;
  split = split_cons u i.units i.lone h i.split;
  means = ap (λ (x : Text). unit_meaning u ++ x) i.means;
}

pub escaped_there : (t : Text) → IsUnescaped (escaped t) t
escaped_there [] = record { units = []; lone = false; split = record { whole = refl; each = tt }; means = refl }
escaped_there (c ∷ t) = elim (cases_Bool (is_escaped c)) [
  | inl e ↦ (let i = rw (escaped_pair c e) at (unescaped_on (pair c) tt (escaped_there t)) in rw e i)
  | inr e ↦ rw e (unescaped_on (single c) (grind (arith, nat_tests, e)) (escaped_there t))
]

pub unescaped_one : (t v w : Text) → IsUnescaped t v → IsUnescaped t w → v ≡ w
unescaped_one t v w i j =
    i.means ∙ ap (flat_map unit_meaning) (split_one t i.units j.units i.lone j.lone i.split j.split).0 ∙ sym j.means

-- ---- a text that grows by bytes, where there is memory
pub pushed : {T E : Type 0} (r : Result T E) (bytes old now : List ℕ) → IsUtf8 old
    → now ≡ cond (is_ok r) (old ++ bytes) old → IfOk r (λ x. chars now ≡ chars old ++ chars bytes)
pushed (Ok x) bytes old now u e = ap chars e ∙ chars-append old bytes u
pushed (Err x) bytes old now u e = tt

pub ruleset appended = (pushed, IsUtf8-string_bytes)

-- ---- values
each_piece : (us : List TextUnit) → AllByRecursion IsValueUnit us → AllByRecursion IsUnit us
    × AllByRecursion IsUnquoted us
each_piece [] h = (tt, tt)
each_piece (pair c ∷ us) h = let t = each_piece us h.1 in ((tt, t.0), (tt, t.1))
each_piece (single c ∷ us) h = let t = each_piece us h.1 in ((h.0.0, t.0), (h.0.1, t.1))

each_unit : (us : List TextUnit) → AllByRecursion IsUnit us → AllByRecursion IsUnquoted us
    → AllByRecursion IsValueUnit us
each_unit [] h k = tt
each_unit (pair c ∷ us) h k = (tt, each_unit us h.1 k.1)
each_unit (single c ∷ us) h k = ((h.0, k.0), each_unit us h.1 k.1)

pub value_split : (text : Text) → IsValue text
    ↔ ((us : List TextUnit) × SplitsUnits text us false × AllByRecursion IsUnquoted us)
value_split text = (λ v. let t = each_piece v.0 v.2 in
    (v.0, record { whole = v.1 ∙ sym (append-nil (flat_map unit_text v.0)); each = t.0 }, t.1))
    also (λ s. (s.0, s.1.whole ∙ append-nil (flat_map unit_text s.0), each_unit s.0 s.1.each s.2))

-- ---- the text without its escapes, front by front

pub means_here : (t : Text) (out : Text) → out ≡ [] → MeansFirst t out t
means_here t out e = record { on = λ w i. rw e i }

-- what was taken of a text, and then a front of its rest
pub means_more : {t r r' out front out' : Text} → MeansFirst t out r → MeansFirst r front r' → out' ≡ out ++ front
    → MeansFirst t out' r'
means_more {front = front} m n e = record { on = λ w i. rw (e, append_assoc) (m.on (front ++ w) (n.on w i)) }

means_nothing : {t : Text} (lone : Bool) → t ≡ lone_backslash lone → IsUnescaped t []
means_nothing lone e =
    record { units = []; lone = lone; split = record { whole = e; each = tt }; means = refl }

bare_not : (c : ℕ) → is_bare_char c ≡ false → c ≡ 92
bare_not c e = grind (arith, nat_tests)

unescaped_run : (xs t w : Text) → Each is_bare_char xs → IsUnescaped t w → IsUnescaped (xs ++ t) (xs ++ w)
unescaped_run [] t w h i = i
unescaped_run (c ∷ xs) t w h i = unescaped_on (single c) (grind (arith, nat_tests, h.0)) (unescaped_run xs t w h.1 i)

-- what a text means that begins with a character which is no backslash
single_first : (d : ℕ) (q w : Text) → d ≢ 92 → IsUnescaped (d ∷ q) w
    → (v : Text) × IsUnescaped q v × (w ≡ d ∷ v)
single_first d q w n i =
    let (us, lone, s) = split_there q in
    let j : IsUnescaped q (flat_map unit_meaning us) =
    record { units = us; lone = lone; split = s; means = refl } in
    (flat_map unit_meaning us, j, unescaped_one (d ∷ q) w _ i (unescaped_on (single d) n j))

module _ {bs xs ys : List ℕ} (s : SplitsRun is_bare_char bs xs ys) where
  pub means_run : MeansFirst (chars bs) (chars xs) (chars ys)
  means_run = record { on = λ w i. rw s.characters (unescaped_run (chars xs) (chars ys) w s.each i) }

  module _ (none : length xs ≡ 0) where
    no_run : chars bs ≡ chars ys
    no_run = s.characters ∙ ap (λ (x : List ℕ). chars x ++ chars ys) (nil_from_length xs none)
        ∙ ap (λ (x : Text). x ++ chars ys) chars-nil

    pub means_no_text : chars ys ≡ [] → IsUnescaped (chars bs) []
    means_no_text e = means_nothing false (no_run ∙ e)

    module _ {c : ℕ} {q : Text} (e : chars ys ≡ c ∷ q) where
      -- what is after the run begins with a backslash
      backslash : chars bs ≡ 92 ∷ q
      backslash = let b = bare_not c (subst (λ (x : Text). Ends is_bare_char x) e s.ends) in
          no_run ∙ e ∙ ap (λ (d : ℕ). d ∷ q) b

      pub means_lone : q ≡ [] → IsUnescaped (chars bs) []
      means_lone f = means_nothing true (backslash ∙ ap (λ (x : Text). 92 ∷ x) f)

      module _ {d : ℕ} {q' : Text} (f : q ≡ d ∷ q') where
        whole : chars bs ≡ 92 ∷ d ∷ q'
        whole = backslash ∙ ap (λ (x : Text). 92 ∷ x) f

        pub means_pair : {front : Text} → front ≡ pair_meaning d → MeansFirst (chars bs) front q'
        means_pair g = record { on = λ w i. rw (whole, g) (unescaped_on (pair d) tt i) }

        pub means_itself : {front : Text} → pair_meaning d ≡ 92 ∷ d ∷ [] → d ≢ 92 → front ≡ 92 ∷ []
            → MeansFirst (chars bs) front q
        means_itself m n g = record {
          on = λ w i.
              let (v, j, h) = single_first d q' w n (subst (λ (x : Text). IsUnescaped x w) f i) in
              rw (whole, g, h) (rw m at (unescaped_on (pair d) tt j));
        }

pub ruleset taken = (means_here, means_more, chars-nil)

-- ---- what an iterator over parameters gives in all
pub param_items_drained : {S : Type 0} (bytes : S → List ℕ) (params : List (S × S)) (items : List (Result (Bor S ×
    String Global) AllocError)) → Drains (NextParam bytes) params items → AreParamItems bytes params items
param_items_drained bytes [] [] d = tt
param_items_drained bytes [] (item ∷ items) d = let step = d.1.1.1.0 in absurd (cc)
param_items_drained bytes (p ∷ ps) [] d = absurd (rw (← d.1.1) at d.1.2).0
param_items_drained bytes (p ∷ ps) (item ∷ items) d =
    let step = d.1.1.1 in
    (step.0, param_items_drained bytes ps items (d.0, (d.1.0, rw step.1 at d.1.1.2, d.1.2)))

-- ---- the texts of elements are parts of their list

-- the texts that a row's meaning holds are parts of the row
row_parts : (Cs : List Class) (k : Quoted Cs) (B : Type 0) (f : Values Cs → B) (g : B → List Text)
    → ((vs : Values Cs) → row_texts Cs k vs ≡ g (f vs)) → Quotes (mapped (Row Cs) B f) g
row_parts Cs k B f g same p q v (vs, (ps, e, h), i) =
    rw (i, ← same vs, e) (all_map (part_joined ps) (row_texts Cs k vs) (row_quotes Cs k ps q vs h))

-- ---- lists
module _ (C : Class) (f : C.Value → List Text) (g : Quotes C f) (sep : ℕ) where
  two_parts : (p a b : Text) (ts us : List Text) → p ≡ a ++ b → AllByRecursion (λ t. IsPart a t) ts
      → AllByRecursion (λ t. IsPart b t) us → AllByRecursion (λ t. IsPart p t) (ts ++ us)
  two_parts p a b ts us e h k = rw e
      (all_append (λ t. IsPart (a ++ b) t) ts us (all_map (part_left a b) ts h) (all_map (part_right a b) us k))

  more_parts : (p q : Text) (vs : List C.Value) → IsMore C sep p q vs → AllByRecursion (λ t. IsPart p t) (flat_map f vs)
  more_parts p q [] h = tt
  more_parts p q (v ∷ vs) (a, b, e, h, more) =
      let there = two_parts (a ++ b) a b (f v) (flat_map f vs) refl (g a (b ++ q) v h) (more_parts b q vs more) in
      rw e (all_map (part_right (sep ∷ []) (a ++ b)) (flat_map f (v ∷ vs)) there)

  list_parts : (p q : Text) (vs : List C.Value) → IsList C sep p q vs → AllByRecursion (λ t. IsPart p t) (flat_map f vs)
  list_parts p q [] h = tt
  list_parts p q (v ∷ vs) (a, b, e, h, more) =
      two_parts p a b (f v) (flat_map f vs) e (g a (b ++ q) v h) (more_parts b q vs more)

-- ---- parameters and elements
abbrev param_quoted : Quoted param_row
param_quoted =
    ((λ t. t ∷ []), texted_quotes (some_run is_name_char)) also silent (exactly (61 ∷ [])) also silent (run is_blank)
    also silent (exactly (34 ∷ [])) also ((λ v. v ∷ []), λ p q v h. (part_same p v h.2, tt))
    also silent (exactly (34 ∷ [])) also tt

abbrev param_texts : Text × Text → List Text
param_texts p = p.0 ∷ p.1 ∷ []

abbrev element_quoted : Quoted element_row
element_quoted =
    silent (exactly (91 ∷ [])) also ((λ t. t ∷ []), texted_quotes (some_run is_id_char)) also silent (run is_blank)
    also (
      flat_map param_texts,
      λ p q vs h. list_parts param param_texts
          (row_parts param_row param_quoted (Text × Text) param_of param_texts (λ vs. refl)) 32 p q vs h.0,
    )
    also silent (exactly (93 ∷ [])) also tt

pub element_quotes : Quotes element element_texts
element_quotes = row_parts element_row element_quoted ElementValue element_of element_texts
    (λ vs. append-nil (element_texts (element_of vs)))

-- ---- the forgiving list
items_parts : (p q : Text) (items : List (Option ElementValue)) → IsMany item p q items
    → AllByRecursion (λ t. IsPart p t) (flat_map element_texts (strict items))
items_parts p q [] h = tt
items_parts p q (None ∷ items) (a, b, e, h, more) =
    rw e (all_map (part_right a b) (flat_map element_texts (strict items)) (items_parts b q items more))
items_parts p q (Some v ∷ items) (a, b, e, h, more) =
    two_parts element element_texts element_quotes 32 p a b (element_texts v) (flat_map element_texts (strict items)) e
    (element_quotes a (b ++ q) v h) (items_parts b q items more)

pub forgiving_quotes : Quotes forgiving (λ es. flat_map element_texts es)
forgiving_quotes p q es (inl (d, e)) = rw e tt
forgiving_quotes p q es (inr (items, l, m, e)) = rw e (items_parts p q items m)

-- ---- the list of RFC 3164
full_parts : (p q : Text) (es : List ElementValue) → IsMany full_element p q es
    → AllByRecursion (λ t. IsPart p t) (flat_map element_texts es)
full_parts p q [] h = tt
full_parts p q (v ∷ es) (a, b, e, h, more) =
    two_parts element element_texts element_quotes 32 p a b (element_texts v) (flat_map element_texts es) e
    (element_quotes a (b ++ q) v h.0) (full_parts b q es more)

pub optional_rfc3164_list_quotes : (rule : DashRule)
    → Quotes (optional (rfc3164_list rule)) (λ es. flat_map element_texts (elements_or es))
optional_rfc3164_list_quotes rule p q None h = tt
optional_rfc3164_list_quotes rule p q (Some es) (inl (d, a, e)) = rw e tt
optional_rfc3164_list_quotes rule p q (Some es) (inr (l, m)) = full_parts p q es m

-- ---- counting parameters of any type of texts is counting them over texts, and where counting may begin

-- counting over the texts is counting by the texts
pub param_count-map : {S : Type 0} (text : S → Text) (p : Param) (qs : List (S × S))
    → param_count p (map (param_value text) qs) ≡ count_by (λ q. param_eq p (param_value text q)) qs
param_count-map text p [] = refl
param_count-map text p (q ∷ qs) =
    sum_by-cons (λ r. cond (param_eq p r) 1 0) (param_value text q) (map (param_value text) qs)
    ∙ ap (λ n. cond (param_eq p (param_value text q)) 1 0 + n) (param_count-map text p qs)
    ∙ sym (sum_by-cons (λ r. cond (param_eq p (param_value text r)) 1 0) q qs)

-- the same of the test whether counts agree
pub counts_agree-map : {S : Type 0} (text : S → Text) (these ps qs : List (S × S))
    → counts_agree (map (param_value text) these) (map (param_value text) ps) (map (param_value text) qs)
    ≡ list_all (λ p. nat_eq (count_by (λ q. param_eq (param_value text p) (param_value text q)) ps)
    (count_by (λ q. param_eq (param_value text p) (param_value text q)) qs)) these
counts_agree-map text these ps qs = simp (list_all-map, param_count-map text)

-- ---- lists of one length are compared by the counts of the first's parameters

pub counted_once : (ps qs : List Param) → length ps ≡ length qs → counts_agree ps ps qs ≡ same_params ps qs
counted_once ps qs long =
    one_answer _ _ ((λ e. counts_of_permutation ps qs (permuted ps qs long
    (λ p some. counts_agree-at ps ps qs p e some))) also counts_agree-from ps ps qs) (same_params-decides ps qs)

-- what is in front of both lists in one order changes nothing
pub same_params-after : (zs ps qs : List Param) → same_params ps qs ≡ same_params (zs ++ ps) (zs ++ qs)
same_params-after zs ps qs =
    let more = λ (ls : List Param) (p : Param). sum_by-append (λ q. cond (param_eq p q) 1 0) zs ls in
    one_answer _ _ ((λ e p. omega (arith, same_params-counts ps qs e p, more ps p, more qs p))
    also (λ same. same_params-from ps qs (λ p. omega (arith, same p, more ps p, more qs p))))
    (same_params-decides (zs ++ ps) (zs ++ qs))

-- so counting may begin where the two lists first differ
pub counted_from : {S : Type 0} (text : S → Text) (xs ys : List (S × S)) (i : ℕ) → length xs ≡ length ys → map
    (param_value text) (take i xs) ≡ map (param_value text) (take i ys) → counts_agree (map (param_value text) (drop i
    xs)) (map (param_value text) (drop i xs)) (map (param_value text) (drop i ys)) ≡ same_params (map (param_value text)
    xs) (map (param_value text) ys)
counted_from text xs ys i long front =
    let v = param_value text in
    counted_once (map v (drop i xs)) (map v (drop i ys)) (simp (length-map, length-drop, long))
    ∙ same_params-after (map v (take i xs)) (map v (drop i xs)) (map v (drop i ys))
    ∙ rw (← map-append v (take i xs) (drop i xs), take-append-drop, front)
    (rw (← map-append v (take i ys) (drop i ys), take-append-drop) refl)

-- a slice to its end
pub slice_to_end : {X : Type 0} (xs : List X) (i : ℕ) → take (length xs - i) (drop i xs) ≡ drop i xs
slice_to_end xs i = let long = length-drop i xs in take_all (length xs - i) (drop i xs) (omega (arith, long))

-- lists of different lengths are not equal
pub unlike_lists : {S : Type 0} (text : S → Text) (xs ys : List (S × S)) → length xs ≢ length ys
    → false ≡ same_params (map (param_value text) xs) (map (param_value text) ys)
unlike_lists text xs ys differ =
    let view = param_value text in
    elim (cases_Bool (same_params (map view xs) (map view ys))) [
      | inl same ↦ absurd (differ (sym (length-map xs view)
          ∙ length_of_counts _ _ (same_params-counts (map view xs) (map view ys) same) ∙ length-map ys view))
      | inr unlike ↦ sym unlike
    ]

-- one parameter more that is the same in both
pub front_more : {S : Type 0} (text : S → Text) (xs ys : List (S × S)) (i : ℕ) (x y : S × S) → i < length xs → i <
    length ys → x ≡ get_or xs i x → y ≡ get_or ys i y → map (param_value text) (take i xs) ≡ map (param_value text)
    (take i ys) → param_eq (param_value text x) (param_value text y) ≡ true → map (param_value text) (take (i + 1) xs) ≡
    map (param_value text) (take (i + 1) ys)
front_more text xs ys i x y h k at there front same =
    let equal = param_eq-same (param_value text x) (param_value text y) same in
    rw (take_more xs i x h, take_more ys i y k, ← at, ← there) (simp map-append (cc))

-- what the comparison of two lists rests on
pub ruleset comparing = (counted_from, slice_to_end, unlike_lists)

-- ---- the bytes that are written of printed elements

-- the bytes of ` name="value"`
pub encodes_param : (name value : Text) (n v : List ℕ) → encode_utf8_all name ≡ n → encode_utf8_all value ≡ v
    → encode_utf8_all (param_text (name, value)) ≡ 32 ∷ (n ++ (61 ∷ 34 ∷ (v ++ (34 ∷ []))))
unfolding encode_utf8
encodes_param name value n v e f =
    rw (encodes-append name (61 ∷ 34 ∷ (value ++ (34 ∷ []))), encodes-append value (34 ∷ []), e, f)

-- the bytes of `[id`
pub encodes_opening : (id : Text) (i : List ℕ) → encode_utf8_all id ≡ i → encode_utf8_all (91 ∷ (id ++ [])) ≡ 91 ∷ i
unfolding encode_utf8
encodes_opening id i e = ap (λ (x : List ℕ). 91 ∷ x) (ap encode_utf8_all (append-nil id) ∙ e)

-- and those of a text and `]`
pub encodes_closed : (text : Text) (all : Text) → all ≡ text ++ (93 ∷ [])
    → encode_utf8_all text ++ (93 ∷ []) ≡ encode_utf8_all all
unfolding encode_utf8
encodes_closed text all e = sym (encodes-append text (93 ∷ [])) ∙ ap encode_utf8_all (sym e)

pub ruleset put_element = (put_two, encodes_shown, encodes_opening)
