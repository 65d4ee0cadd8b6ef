-- The members of objects, one after the other, and parameters and elements as members.
use Rattle.syslog_object.proofs
use proofs.Names.{append_assoc, append-nil, members_after}
use proofs.Names.{drop_more, map-append, cases_Bool, AreDistinct, compact_text, object_text}
use proofs.Names.{[], bytes_eq, list_any, items_of, first_keys, gathered, one_or_all, values_at, items_text, param_pair}
use proofs.Names.{Bool, true, false, List, ◌++◌, length, take, drop, get_or, ap, subst, filter, quoted, IsNewKey}
use proofs.Names.{escape}
use proofs.Names.{◌≡◌, ℕ, zero, suc, ◌+◌, ◌<◌, ◌≤◌, not, ◌∷◌, map, refl, sym, ◌∙◌, cond, inl, inr, ◌==◌, Bor}
use proofs.Names.{Json}
use proofs.Names.{Text, Option, Some, arith}
use Rattle.std.proofs.Common.{◌≢◌, ◌-◌, nat_cmp, nat_lt, replicate, slice_set}
use Rattle.std.proofs.lemmas.Bool.{cases_eq, ne_eqb, true≢false, Decides.nat_tests}
use Rattle.std.proofs.lemmas.List.{drop-drop, drop_all, get_or-drop, get_or-map, get_or-set_other, get_or-set_same}
use Rattle.std.proofs.lemmas.List.{get_or_default, length-drop, length-map, length-replicate, length-set}
use Rattle.std.proofs.lemmas.List.{length-take, take_all}
use Rattle.std.proofs.lemmas.List.{take_more}
use Rattle.std.proofs.lemmas.{List.Elements.filter-append, Map.Text.btree_map_updates_str, Slice.Eq.bytes_eq-Decides}
use Rattle.std.proofs.lemmas.Simd.{map-map}
use Rattle.std.proofs.Math.Bool.{or-true}
use Rattle.std.specs.BTreeMap.{BTreeMap, UpdatesBy, get_by}
use Rattle.std.specs.{Cmp.Lexicographic.slice_cmp, Option.unwrap_or}
use Rattle.syslog_text.specs.Pieces.View.{shown}
use Rattle.syslog_elements.specs.StructuredData.Element.{param_value}
use Rattle.syslog_object.specs.Parts.{later_text, member_text, open_text}
use Rattle.syslog_object.specs.Places.{AreNext, ArePlaces, IsMarked, before_member, begun, place}

-- a key and its value
abbrev pub Pair : Type 0
Pair = List ℕ × Json

-- ---- lists

-- the item at a place, and those after it
pub at_place : {X : Type 0} (xs : List X) (i : ℕ) (x : X) → i < length xs → x ≡ get_or xs i x
    → drop i xs ≡ x ∷ drop (i + 1) xs
at_place xs i x inside is = drop_more xs i x inside ∙ ap (λ y. y ∷ drop (i + 1) xs) (sym is)

pub taken_more : {X : Type 0} (xs : List X) (i : ℕ) (x : X) → i < length xs → x ≡ get_or xs i x
    → take (i + 1) xs ≡ take i xs ++ x ∷ []
taken_more xs i x inside is = take_more xs i x inside ∙ ap (λ y. take i xs ++ y ∷ []) (sym is)

-- what holds of the keys of a list holds of those of one that is the same
pub of_keys : {X : Type 0} (P : List (List ℕ) → Type 0) (key : X → List ℕ) (xs ys : List X) → xs ≡ ys
    → P (map key ys) → P (map key xs)
of_keys P key xs ys same h = rw same h

-- ---- keys that each come once

no_values : {V : Type 0} (key : List ℕ) (ps : List (List ℕ × V)) → IsNewKey key (map (λ p. p.0) ps)
    → values_at key ps ≡ []
no_values key [] new = refl
no_values key (p ∷ ps) new = rw (new.0) (no_values key ps new.1)

new_filtered : (key : List ℕ) (ks : List (List ℕ)) → IsNewKey key ks → filter (λ k. not (bytes_eq key k)) ks ≡ ks
new_filtered key [] new = refl
new_filtered key (k ∷ ks) new = rw (new.0) (ap (λ l. k ∷ l) (new_filtered key ks new.1))

distinct_keys : {V : Type 0} (ps : List (List ℕ × V)) → AreDistinct (map (λ p. p.0) ps)
    → first_keys ps ≡ map (λ p. p.0) ps
distinct_keys [] distinct = refl
distinct_keys (p ∷ ps) distinct =
    rw (distinct_keys ps distinct.1) (ap (λ ks. p.0 ∷ ks) (new_filtered p.0 _ distinct.0))

-- ---- items with their keys and values
module _ {X : Type 0} (key : X → List ℕ) (json : X → Json) where
  abbrev pub pairs_of : List X → List Pair
  pairs_of xs = map (λ x. (key x, json x)) xs

  pub pairs_long : (xs : List X) → length (pairs_of xs) ≡ length xs
  pairs_long xs = length-map xs (λ x. (key x, json x))

  pub pair_at : (xs : List X) (i : ℕ) (x : X) → i < length xs → x ≡ get_or xs i x
      → (key x, json x) ≡ get_or (pairs_of xs) i (key x, json x)
  pair_at xs i x within is =
      ap (λ y. (key y, json y)) is ∙ sym (get_or-map (λ y. (key y, json y)) xs i x (key x, json x) within)

-- ---- the text of an object, a member after the other

later_more : (ps : List Pair) (p : Pair) → later_text (ps ++ p ∷ []) ≡ later_text ps ++ member_text p
later_more [] p = append-nil (member_text p)
later_more (q ∷ qs) p =
    ap (λ xs. member_text q ++ xs) (later_more qs p)
    ∙ sym (append_assoc (member_text q) (later_text qs) (member_text p))

-- one member more, where so many come before it
pub open_more : (ps : List Pair) (p : Pair) (n : ℕ) → (n ≡ 0 → length ps ≡ 0) → (length ps ≡ 0 → n ≡ 0)
    → open_text (ps ++ p ∷ []) ≡ open_text ps ++ (before_member n ∷ (quoted p.0 ++ 58 ∷ compact_text p.1))
open_more [] p n first later = rw (later refl, append-nil (compact_text p.1)) refl
open_more (q ∷ qs) p n first later =
    let text = compact_text q.1 in
    let m = member_text p in
    rw (ne_eqb n 0 (λ none. absurd (omega (arith, first none))))
    (ap (λ xs. 123 ∷ (quoted q.0 ++ 58 ∷ (text ++ xs))) (later_more qs p)
    ∙ sym (ap (λ xs. 123 ∷ xs) (append_assoc (quoted q.0) (58 ∷ (text ++ later_text qs)) m
    ∙ ap (λ xs. quoted q.0 ++ 58 ∷ xs) (append_assoc text (later_text qs) m))))

later_closed : (ps : List Pair) → later_text ps ++ 125 ∷ [] ≡ members_after ps
later_closed [] = refl
later_closed (p ∷ ps) =
    simp append_assoc (ap (λ xs. 44 ∷ 34 ∷ (escape p.0 ++ 34 ∷ 58 ∷ (compact_text p.1 ++ xs))) (later_closed ps))

pub open_closed : (ps : List Pair) → ps ≢ [] → open_text ps ++ 125 ∷ [] ≡ object_text ps
open_closed [] some = absurd (some refl)
open_closed (p ∷ ps) some =
    simp append_assoc (ap (λ xs. 123 ∷ 34 ∷ (escape p.0 ++ 34 ∷ 58 ∷ (compact_text p.1 ++ xs))) (later_closed ps))

-- the brace after members, or both where there are none
pub ended : (ps : List Pair) (n : ℕ) (base out now : List ℕ) → (n ≡ 0 → length ps ≡ 0) → (length ps ≡ 0 → n ≡ 0)
    → out ≡ base ++ open_text ps → now ≡ out ++ cond (n == 0) (123 ∷ 125 ∷ []) (125 ∷ []) → now ≡ base ++ object_text ps
ended ps n base out now first later held is =
    rw (is, held) (append_assoc base (open_text ps) _ ∙ ap (λ xs. base ++ xs) (whole ps first later))
  where
    whole : (qs : List Pair) → (n ≡ 0 → length qs ≡ 0) → (length qs ≡ 0 → n ≡ 0)
        → open_text qs ++ cond (n == 0) (123 ∷ 125 ∷ []) (125 ∷ []) ≡ object_text qs
    whole [] empty back = rw (back refl) refl
    whole (q ∷ qs) empty back =
        rw (ne_eqb n 0 (λ e. absurd (omega (arith, empty e)))) (open_closed (q ∷ qs) (λ e. cc))

regroup : (a b k v : List ℕ) (x : ℕ) → ((a ++ b) ++ (x ∷ (k ++ 58 ∷ []))) ++ v ≡ a ++ (b ++ (x ∷ (k ++ 58 ∷ v)))
regroup a b k v x = simp append_assoc

-- a member was written after those before it
pub member_added : (ps : List Pair) (i : ℕ) (p : Pair) (base out key_out now name : List ℕ) → i < length ps
    → p ≡ get_or ps i p → name ≡ p.0 → out ≡ base ++ open_text (take i ps)
    → key_out ≡ out ++ (before_member i ∷ (quoted name ++ 58 ∷ [])) → now ≡ key_out ++ compact_text p.1
    → now ≡ base ++ open_text (take (i + 1) ps)
member_added ps i p base out key_out now name within is same held named valued =
    let none : i ≡ 0 → length (take i ps) ≡ 0 = λ zero. omega (arith, length-take i ps) in
    let first : length (take i ps) ≡ 0 → i ≡ 0 = λ zero. omega (arith, length-take i ps) in
    rw (valued, named, same, held, taken_more ps i p within is, open_more (take i ps) p i none first)
    (regroup base (open_text (take i ps)) (quoted p.0) (compact_text p.1) (before_member i))

pub all_added : (ps : List Pair) (n : ℕ) (base out now : List ℕ) → length ps ≡ n
    → out ≡ base ++ open_text (take n ps) → now ≡ out ++ cond (n == 0) (123 ∷ 125 ∷ []) (125 ∷ [])
    → now ≡ base ++ object_text ps
all_added ps n base out now long held is =
    let all : take n ps ≡ ps = take_all n ps (omega arith) in
    ended ps n base out now (λ zero. omega arith) (λ zero. omega arith)
    (held ∙ ap (λ qs. base ++ open_text qs) all) is

-- ---- keys that may come again

equal_back : (k l : List ℕ) → bytes_eq k l ≡ true → bytes_eq l k ≡ true
equal_back k l e = (bytes_eq-Decides l k).1 (sym ((bytes_eq-Decides k l).0 e))

pub differs_back : (k l : List ℕ) → bytes_eq k l ≡ false → bytes_eq l k ≡ false
differs_back k l e = elim (cases_Bool (bytes_eq l k)) [
  | inl same ↦ absurd (true≢false (sym (equal_back l k same) ∙ e))
  | inr other ↦ other
]

-- whether a key is among those of the pairs
abbrev pub is_present : {V : Type 0} → List ℕ → List (List ℕ × V) → Bool
is_present key ps = list_any (λ p. bytes_eq key p.0) ps

-- a key that is not yet among them goes to the end
keys_push : {V : Type 0} (ps : List (List ℕ × V)) (p : List ℕ × V) → first_keys (ps ++ p ∷ [])
    ≡ cond (is_present p.0 ps) (first_keys ps) (first_keys ps ++ p.0 ∷ [])
keys_push [] p = refl
keys_push (r ∷ rs) p =
    let differs = λ (k : List ℕ). not (bytes_eq r.0 k) in
    elim (cases_Bool (is_present p.0 rs)) [
      | inl there ↦ rw (keys_push rs p, there, or-true (bytes_eq p.0 r.0)) refl
      | inr absent ↦ elim (cases_Bool (bytes_eq p.0 r.0)) [
        | inl same ↦
            rw (
              keys_push rs p,
              absent,
              same,
              filter-append differs (first_keys rs) (p.0 ∷ []),
              equal_back p.0 r.0 same,
              append-nil (filter differs (first_keys rs)),
            ) refl
        | inr other ↦
            rw (
              keys_push rs p,
              absent,
              other,
              filter-append differs (first_keys rs) (p.0 ∷ []),
              differs_back p.0 r.0 other,
            ) refl
      ]
    ]

-- ---- the places of keys

-- no key comes before its first place
before_place : (key : List ℕ) (ps : List Pair) (i : ℕ) → i ≤ place key ps → is_present key (take i ps) ≡ false
before_place key ps zero low = refl
before_place key [] (suc i) low = refl
before_place key (p ∷ ps) (suc i) low = elim (cases_Bool (bytes_eq key p.0)) [
  | inl same ↦ absurd (omega (arith, rw same at low))
  | inr other ↦ rw other (before_place key ps i (omega (arith, rw other at low)))
]

after_place : (key : List ℕ) (ps : List Pair) (i : ℕ) → place key ps < i → i ≤ length ps
    → is_present key (take i ps) ≡ true
after_place key ps zero low within = absurd (omega arith)
after_place key [] (suc i) low within = absurd (omega arith)
after_place key (p ∷ ps) (suc i) low within = elim (cases_Bool (bytes_eq key p.0)) [
  | inl same ↦ rw same refl
  | inr other ↦ rw other (after_place key ps i (omega (arith, rw other at low)) (omega arith))
]

-- and has no value there
passed_values : (key : List ℕ) (ps : List Pair) (i : ℕ) → i ≤ place key ps
    → values_at key (drop i ps) ≡ values_at key ps
passed_values key ps zero low = refl
passed_values key [] (suc i) low = refl
passed_values key (p ∷ ps) (suc i) low = elim (cases_Bool (bytes_eq key p.0)) [
  | inl same ↦ absurd (omega (arith, rw same at low))
  | inr other ↦ rw other (passed_values key ps i (omega (arith, rw other at low)))
]

key_at_place : (key : List ℕ) (ps : List Pair) (q : Pair) → place key ps < length ps
    → q ≡ get_or ps (place key ps) q → q.0 ≡ key
key_at_place key [] q within is = absurd (omega arith)
key_at_place key (p ∷ ps) q within is = elim (cases_Bool (bytes_eq key p.0)) [
  | inl same ↦ ap (λ x. x.0) (rw same at is) ∙ sym ((bytes_eq-Decides key p.0).0 same)
  | inr other ↦ key_at_place key ps q (omega (arith, rw other at within)) (rw other at is)
]

-- the next place of a key has the key, and its values from there on come after this one
pub next_key : (ps : List Pair) (i n : ℕ) (p q : Pair) → n ≡ i + 1 + place p.0 (drop (i + 1) ps)
    → n < length ps → q ≡ get_or ps n q → q.0 ≡ p.0
next_key ps i n p q next within is =
    let rest = drop (i + 1) ps in
    key_at_place p.0 rest q (omega (arith, length-drop (i + 1) ps))
    (is ∙ ap (λ (k : ℕ). get_or ps k q) next ∙ sym (get_or-drop (i + 1) ps (place p.0 rest) q))

pub next_values : (ps : List Pair) (i n : ℕ) (p : Pair) → i < length ps → p ≡ get_or ps i p
    → n ≡ i + 1 + place p.0 (drop (i + 1) ps) → values_at p.0 (drop i ps) ≡ p.1 ∷ values_at p.0 (drop n ps)
next_values ps i n p within is next =
    let rest = drop (i + 1) ps in
    let same : bytes_eq p.0 p.0 ≡ true = (bytes_eq-Decides p.0 p.0).1 refl in
    let far : drop (place p.0 rest) rest ≡ drop n ps =
    drop-drop (place p.0 rest) (i + 1) ps ∙ ap (λ (k : ℕ). drop k ps) (sym next) in
    rw (at_place ps i p within is, same)
    (ap (λ ds. p.1 ∷ ds) (sym (passed_values p.0 rest (place p.0 rest) (omega arith)) ∙ ap (values_at p.0) far))

-- ---- the places are found from the last member to the first

-- The map has the first place of each key from `at` on. The lists are those of `ArePlaces` for the pairs from there on.
pub record AreLater (ps : List Pair) (at : ℕ) (firsts : BTreeMap (Bor (List ℕ)) ℕ) (nexts : List ℕ)
    (agains : List Bool) : Type 0 where
  pub within : at ≤ length ps
  pub first : (key : List ℕ)
      → unwrap_or (get_by (λ k. slice_cmp nat_cmp key k.now) firsts) (length ps) ≡ at + place key (drop at ps)
  pub next : AreNext ps at nexts
  pub sized : length agains ≡ length ps
  pub unset : (i : ℕ) → i ≤ at → get_or agains i false ≡ false
  pub again : (i : ℕ) (p : Pair) → at ≤ i → i < length ps → p ≡ get_or ps i p
      → get_or agains i false ≡ nat_lt (at + place p.0 (drop at ps)) i

all_unset : (n i : ℕ) → get_or (replicate n false) i false ≡ false
all_unset zero i = refl
all_unset (suc n) zero = refl
all_unset (suc n) (suc i) = all_unset n i

pub no_places : (ps : List Pair) (at : ℕ) (firsts : BTreeMap (Bor (List ℕ)) ℕ) (nexts : List ℕ) (agains : List Bool)
    → at ≡ length ps → firsts.entries ≡ [] → length nexts ≡ length ps → agains ≡ replicate (length ps) false
    → AreLater ps at firsts nexts agains
no_places ps at firsts nexts agains end empty sized none = record {
  within = omega arith;
  first = λ key. let none : place key (drop at ps) ≡ 0 = ap (place key) (drop_all at ps (omega arith)) in
      rw empty (omega (arith, none));
  next = record { sized = sized; each = λ i p low high is. absurd (omega arith) };
  sized = ap length none ∙ length-replicate (length ps) false;
  unset = λ i low. rw none (all_unset (length ps) i);
  again = λ i p low high is. absurd (omega arith);
}

-- a key that is at a place has its first place there or before
place_by : (key : List ℕ) (ps : List Pair) (i : ℕ) (q : Pair) → i < length ps → q ≡ get_or ps i q → q.0 ≡ key
    → place key ps ≤ i
place_by key [] i q within is same = absurd (omega arith)
place_by key (p ∷ ps) zero q within is same =
    let e : bytes_eq key p.0 ≡ true = (bytes_eq-Decides key p.0).1 (sym same ∙ ap (λ (x : Pair). x.0) is) in
    rw e (omega arith)
place_by key (p ∷ ps) (suc i) q within is same = elim (cases_Bool (bytes_eq key p.0)) [
  | inl e ↦ rw e (omega arith)
  | inr e ↦ rw e (omega (arith, place_by key ps i q (omega arith) is same))
]

-- the flags from `at` on, where the next place of the key there was set
again_at : (ps : List Pair) (at : ℕ) (p : Pair) (agains now : List Bool) (next : ℕ) → at < length ps
    → p ≡ get_or ps at p → next ≡ at + 1 + place p.0 (drop (at + 1) ps)
    → ((i : ℕ) (q : Pair) → at + 1 ≤ i → i < length ps → q ≡ get_or ps i q
    → get_or agains i false ≡ nat_lt (at + 1 + place q.0 (drop (at + 1) ps)) i)
    → get_or now at false ≡ false → (next < length ps → get_or now next false ≡ true)
    → ((i : ℕ) → i ≢ next → get_or now i false ≡ get_or agains i false)
    → (i : ℕ) (q : Pair) → at ≤ i → i < length ps → q ≡ get_or ps i q
    → get_or now i false ≡ nat_lt (at + place q.0 (drop at ps)) i
again_at ps at p agains now next within is found held unset set kept i q low high at_i =
    let rest = drop (at + 1) ps in
    let whole : place q.0 (drop at ps) ≡ place q.0 (p ∷ rest) = ap (place q.0) (at_place ps at p within is) in
    elim (cases_eq i at) [
      | inl e ↦
          let one : q ≡ p = at_i ∙ ap (λ (j : ℕ). get_or ps j q) e ∙ get_or_default ps at q p within ∙ sym is in
          let same : bytes_eq q.0 p.0 ≡ true = (bytes_eq-Decides q.0 p.0).1 (ap (λ (x : Pair). x.0) one) in
          rw (e, whole, same, unset) (grind (arith, nat_tests))
      | inr n ↦ elim (cases_Bool (bytes_eq q.0 p.0)) [
        | inl same ↦ rw (whole, same) (elim (cases_eq i next) [
          | inl e ↦
              let told = set (omega (arith, e, high)) in
              rw (e, told) (grind (arith, nat_tests, found))
          | inr other ↦
              let key : q.0 ≡ p.0 = (bytes_eq-Decides q.0 p.0).0 same in
              let apart : at + 1 + (i - (at + 1)) ≡ i = omega (arith, n, low) in
              let here : q ≡ get_or rest (i - (at + 1)) q =
              at_i ∙ ap (λ (j : ℕ). get_or ps j q) (sym apart) ∙ sym (get_or-drop (at + 1) ps (i - (at + 1)) q) in
              let by = place_by p.0 rest (i - (at + 1)) q (omega (arith, n, low, high, length-drop (at + 1) ps)) here
              key in
              let told = kept i other ∙ held i q (omega (arith, n, low)) high at_i in
              rw (told, key) (grind (arith, nat_tests, found, by, other, n, low))
        ])
        | inr e ↦
            let apart : i ≢ next = λ same. let key = next_key ps at next p q found (omega (arith, same, high))
            (at_i ∙ ap (λ (j : ℕ). get_or ps j q) same) in
            true≢false (sym ((bytes_eq-Decides q.0 p.0).1 key) ∙ e) in
            let told = kept i apart ∙ held i q (omega (arith, n, low)) high at_i in
            rw (whole, e, told) (grind (arith, nat_tests))
      ]
    ]

pub one_place : (ps : List Pair) (at : ℕ) (p : Pair) (k : Bor (List ℕ)) (firsts now : BTreeMap (Bor (List ℕ)) ℕ)
    (nexts : List ℕ) (agains flags : List Bool) (old : Option ℕ) (next : ℕ) → AreLater ps (at + 1) firsts nexts agains
    → p ≡ get_or ps at p → k.now ≡ p.0 → old ≡ get_by (λ y. slice_cmp nat_cmp k.now y.now) firsts
    → UpdatesBy (λ x y. slice_cmp nat_cmp x.now y.now) (λ y. slice_cmp nat_cmp k.now y.now) firsts now (Some at)
    → next ≡ unwrap_or old (length ps) → IsMarked next agains flags
    → AreLater ps at now (slice_set nexts at next) flags
one_place ps at p k firsts now nexts agains flags old next places is same was updates set_to marked =
    let within : at + 1 ≤ length ps = places.within in
    let found : next ≡ at + 1 + place p.0 (drop (at + 1) ps) =
    set_to ∙ ap (λ o. unwrap_or o (length ps)) was ∙ places.first k.now
    ∙ ap (λ key. at + 1 + place key (drop (at + 1) ps)) same in
    let unset : (i : ℕ) → i ≤ at → get_or flags i false ≡ false =
    λ i low. marked.kept i (λ e. omega (arith, found, e, low)) ∙ places.unset i (omega (arith, low)) in
    record {
      within = omega arith;
      first = λ key. let held = btree_map_updates_str k.now firsts now (Some at) updates key in
          let whole : place key (drop at ps) ≡ place key (p ∷ drop (at + 1) ps) =
          ap (place key) (at_place ps at p (omega arith) is) in
          elim (cases_Bool (bytes_eq key p.0)) [
            | inl e ↦ let here : bytes_eq k.now key ≡ true = rw same (equal_back key p.0 e) in
                rw (held, here, whole, e) (omega arith)
            | inr e ↦ let other : bytes_eq k.now key ≡ false = rw same (differs_back key p.0 e) in
                rw (held, other, whole, e) (omega (arith, places.first key))
          ];
      next = record {
        sized = length-set nexts at next ∙ places.next.sized;
        each = λ i q low high at_i. elim (cases_eq i at) [
          | inl e ↦ let one : q ≡ p =
              at_i ∙ ap (λ (j : ℕ). get_or ps j q) e ∙ get_or_default ps at q p (omega arith) ∙ sym is in
              rw (e, one) (get_or-set_same nexts at next 0 (omega (arith, places.next.sized)) ∙ found)
          | inr n ↦ get_or-set_other nexts at i next 0 n ∙ places.next.each i q (omega (arith, n)) high at_i
        ];
      };
      sized = marked.sized ∙ places.sized;
      unset = unset;
      again = again_at ps at p agains flags next (omega arith) is found places.again (unset at (omega arith))
          (λ low. marked.set (omega (arith, places.sized))) marked.kept;
    }

-- where all were found
pub all_places : (ps : List Pair) (firsts : BTreeMap (Bor (List ℕ)) ℕ) (nexts : List ℕ) (agains : List Bool)
    → AreLater ps 0 firsts nexts agains → ArePlaces ps nexts agains
all_places ps firsts nexts agains places = record {
  next = places.next;
  sized = places.sized;
  again = λ i p high is. let first : 0 + place p.0 ps ≡ place p.0 ps = omega arith in
      places.again i p (omega arith) high is ∙ ap (λ (n : ℕ). nat_lt n i) first;
}

-- the flag of a place says whether its key has one before it
pub flagged : (ps : List Pair) (nexts : List ℕ) (agains : List Bool) (i : ℕ) (p : Pair) (flag : Bool)
    → ArePlaces ps nexts agains → i < length ps → p ≡ get_or ps i p → flag ≡ get_or agains i flag
    → flag ≡ nat_lt (place p.0 ps) i
flagged ps nexts agains i p flag places within is read =
    read ∙ get_or_default agains i flag false (omega (arith, places.sized)) ∙ places.again i p within is

-- ---- the values of a key, and then the next key

keys_taken : (ps : List Pair) (i : ℕ) (p : Pair) (present : Bool) → i < length ps → p ≡ get_or ps i p
    → is_present p.0 (take i ps) ≡ present
    → first_keys (take (i + 1) ps) ≡ cond present (first_keys (take i ps)) (first_keys (take i ps) ++ p.0 ∷ [])
keys_taken ps i p present within is there =
    ap first_keys (taken_more ps i p within is) ∙ keys_push (take i ps) p
    ∙ ap (λ b. cond b (first_keys (take i ps)) (first_keys (take i ps) ++ p.0 ∷ [])) there

pub group_came : (ps : List Pair) (i : ℕ) (p : Pair) → i < length ps → p ≡ get_or ps i p → place p.0 ps < i
    → begun ps (i + 1) ≡ begun ps i
group_came ps i p within is low =
    ap (map (λ k. (k, one_or_all (values_at k ps))))
    (keys_taken ps i p true within is (after_place p.0 ps i low (omega arith)))

none_begun : (ps : List Pair) (i : ℕ) → i ≤ length ps → length (begun ps i) ≡ 0 → i ≡ 0
none_begun ps zero within none = refl
none_begun [] (suc i) within none = absurd (omega arith)
none_begun (p ∷ ps) (suc i) within none = absurd (omega (arith, none))

pub group_added : (ps : List Pair) (i : ℕ) (p : Pair) (base out key_out now name : List ℕ) → i < length ps
    → p ≡ get_or ps i p → name ≡ p.0 → i ≤ place p.0 ps → out ≡ base ++ open_text (begun ps i)
    → key_out ≡ out ++ (before_member i ∷ (quoted name ++ 58 ∷ []))
    → now ≡ key_out ++ compact_text (one_or_all (values_at p.0 (drop i ps)))
    → now ≡ base ++ open_text (begun ps (i + 1))
group_added ps i p base out key_out now name within is same first held named valued =
    let value = one_or_all (values_at p.0 ps) in
    let more : begun ps (i + 1) ≡ begun ps i ++ (p.0, value) ∷ [] =
    ap (map (λ k. (k, one_or_all (values_at k ps))))
    (keys_taken ps i p false within is (before_place p.0 ps i first))
    ∙ map-append (λ k. (k, one_or_all (values_at k ps))) (first_keys (take i ps)) (p.0 ∷ []) in
    rw (
      valued,
      named,
      same,
      held,
      passed_values p.0 ps i first,
      more,
      open_more (begun ps i) (p.0, value) i (λ zero. rw zero refl) (none_begun ps i (omega arith)),
    ) (regroup base (open_text (begun ps i)) (quoted p.0) (compact_text value) (before_member i))

pub all_begun : (ps : List Pair) (n : ℕ) (base out now : List ℕ) → length ps ≡ n → out ≡ base ++ open_text (begun ps n)
    → now ≡ out ++ cond (n == 0) (123 ∷ 125 ∷ []) (125 ∷ []) → now ≡ base ++ compact_text (gathered ps)
all_begun ps n base out now long held is =
    ended (begun ps n) n base out now (λ zero. rw zero refl) (none_begun ps n (omega arith)) held is
    ∙ ap (λ qs. base ++ object_text (map (λ k. (k, one_or_all (values_at k ps))) (first_keys qs)))
    (take_all n ps (omega arith))

-- ---- the values of one key

-- what is still to be written from a place on, where the key's values begin at the other
abbrev pub Values : List Pair → ℕ → ℕ → List ℕ → List ℕ → Type 0
Values ps first at base out = (p : Pair) → p ≡ get_or ps first p
    → ((q : Pair) → at < length ps → q ≡ get_or ps at q → q.0 ≡ p.0)
    × (out ++ items_text true (items_of (values_at p.0 (drop at ps)))
    ≡ base ++ compact_text (one_or_all (values_at p.0 (drop first ps))))

same_pair : (ps : List Pair) (i : ℕ) (p q : Pair) → i < length ps → p ≡ get_or ps i p → q ≡ get_or ps i q → p ≡ q
same_pair ps i p q within is here = is ∙ get_or_default ps i p q within ∙ sym here

pub value_alone : (ps : List Pair) (first at : ℕ) (x : Pair) (out now : List ℕ) → first < length ps → length ps ≤ at
    → x ≡ get_or ps first x → at ≡ first + 1 + place x.0 (drop (first + 1) ps) → now ≡ out ++ compact_text x.1
    → (p : Pair) → p ≡ get_or ps first p → now ≡ out ++ compact_text (one_or_all (values_at p.0 (drop first ps)))
value_alone ps first at x out now within past here next e p is =
    rw (same_pair ps first p x within is here, next_values ps first at x within here next, drop_all at ps past) e

pub value_first : (ps : List Pair) (first at : ℕ) (x : Pair) (base opened now : List ℕ) → first < length ps
    → at < length ps → x ≡ get_or ps first x → at ≡ first + 1 + place x.0 (drop (first + 1) ps)
    → opened ≡ base ++ 91 ∷ []
    → now ≡ opened ++ compact_text x.1 → Values ps first at base now
value_first ps first at x base opened now within more here next e value p is =
    let one = same_pair ps first p x within is here in
    let q = get_or ps at p in
    let there : q ≡ get_or ps at q = get_or_default ps at p q more in
    let key : (r : Pair) → at < length ps → r ≡ get_or ps at r → r.0 ≡ x.0 =
    λ r low at_r. next_key ps first at x r next low at_r in
    let rest = next_values ps first at x within here next in
    let again = next_values ps at _ q more there refl in
    let same : q.0 ≡ x.0 = key q more there in
    rw one (key, rw (value, e, rest, rw same at again) (simp append_assoc))

pub value_next : (ps : List Pair) (first at next : ℕ) (x : Pair) (base out comma now : List ℕ) → at < length ps
    → x ≡ get_or ps at x → next ≡ at + 1 + place x.0 (drop (at + 1) ps) → comma ≡ out ++ 44 ∷ []
    → now ≡ comma ++ compact_text x.1 → Values ps first at base out → Values ps first next base now
value_next ps first at next x base out comma now within here next_is e value before p is =
    let (key, held) = before p is in
    let same : x.0 ≡ p.0 = key x within here in
    let rest = next_values ps at next x within here next_is in (
      λ r low at_r. next_key ps at next x r next_is low at_r ∙ same,
      rw (value, e) (simp append_assoc (rw (rw same at rest) at held)),
    )

pub values_end : (ps : List Pair) (first at : ℕ) (base out now : List ℕ) → length ps ≤ at → Values ps first at base out
    → now ≡ out ++ 93 ∷ [] → (p : Pair) → p ≡ get_or ps first p
    → now ≡ base ++ compact_text (one_or_all (values_at p.0 (drop first ps)))
values_end ps first at base out now past held e p is = e ∙ rw (drop_all at ps past) at (held p is).1

-- ---- keys that each come once have no other value

-- each key with its value, or all its values
abbrev valued : List Pair → List (List ℕ) → List Pair
valued ps ks = map (λ k. (k, one_or_all (values_at k ps))) ks

skipped : (p : Pair) (ps : List Pair) (ks : List (List ℕ)) → IsNewKey p.0 ks
    → valued (p ∷ ps) ks ≡ valued ps ks
skipped p ps [] new = refl
skipped p ps (k ∷ ks) new = rw (differs_back p.0 k new.0, skipped p ps ks new.1) refl

each_alone : (ps : List Pair) → AreDistinct (map (λ p. p.0) ps) → valued ps (map (λ p. p.0) ps) ≡ ps
each_alone [] distinct = refl
each_alone (p ∷ ps) distinct =
    let same : bytes_eq p.0 p.0 ≡ true = (bytes_eq-Decides p.0 p.0).1 refl in
    rw (same, no_values p.0 ps distinct.0, skipped p ps (map (λ q. q.0) ps) distinct.0, each_alone ps distinct.1) refl

names : {X : Type 0} (key : X → List ℕ) (json : X → Json) (xs : List X)
    → map key xs ≡ map (λ p. p.0) (pairs_of key json xs)
names key json xs = sym (map-map (λ p. p.0) (λ x. (key x, json x)) xs)

pub distinct_gathered : {X : Type 0} (key : X → List ℕ) (json : X → Json) (xs : List X) → AreDistinct (map key xs)
    → object_text (pairs_of key json xs) ≡ compact_text (gathered (pairs_of key json xs))
distinct_gathered key json xs distinct =
    let pairs = pairs_of key json xs in
    let keys = subst AreDistinct (names key json xs) distinct in
    let same : valued pairs (first_keys pairs) ≡ pairs = rw (distinct_keys pairs keys) (each_alone pairs keys) in
    ap object_text (sym same)

-- ---- parameters and elements with their keys and values

-- a name and a value, as slices
abbrev pub Param : Type 0
Param = Bor (List ℕ) × Bor (List ℕ)

-- a parameter over texts
abbrev pub param_seen : Param → Text × Text
param_seen p = param_value (λ s. shown s) p

abbrev pub param_key : Param → List ℕ
param_key p = (param_pair (param_seen p)).0

abbrev pub param_json : Param → Json
param_json p = (param_pair (param_seen p)).1

-- where no item is left, all were seen
pub all_seen : {X : Type 0} (seen left all : List X) → seen ++ left ≡ all → left ≡ [] → seen ≡ all
all_seen seen left all whole none = sym (append-nil seen) ∙ ap (λ xs. seen ++ xs) (sym none) ∙ whole

-- items that show these values have the text of their pairs
pub seen_text : {X Y : Type 0} (see : X → Y) (pair : Y → List ℕ × Json) (xs slice : List X) (ys : List Y)
    → slice ≡ xs → map see xs ≡ ys
    → compact_text (gathered (pairs_of (λ x. (pair (see x)).0) (λ x. (pair (see x)).1) slice))
    ≡ compact_text (gathered (map pair ys))
seen_text see pair xs slice ys same seen =
    ap (λ ps. compact_text (gathered ps))
    (sym (map-map pair see slice) ∙ ap (λ zs. map pair (map see zs)) same ∙ ap (map pair) seen)
