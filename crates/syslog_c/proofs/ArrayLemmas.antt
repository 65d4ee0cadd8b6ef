-- Arrays that are written from the front.
use Rattle.syslog_c.proofs.Words.{◌≡◌, refl, subst, List, length, arith, append-nil, length-append, IsBegun, all_params}
use Rattle.syslog_c.proofs.Words.{◌∙◌, sym, ap, ℕ, ◌+◌, ◌-◌, ◌<◌, ◌≤◌, [], ◌∷◌, ◌++◌, map, take}
use Rattle.std.proofs.Common.{get_or, set, drop, length-drop, drop_of_length-le, length-take-le, take_all}
use Rattle.std.{proofs.Math.Seq.drop-append-add, proofs.Math.Seq.take-append-add, proofs.lemmas.List.Sums.sum_by-cons}
use Rattle.std.{proofs.lemmas.Grind.flat_map-append, specs.List.AllZip, specs.Prelude.sum_by}
use Rattle.std.proofs.lemmas.List.{length-map, map-append, take_more, take_more_set, drop-set-lt, drop-drop}
use borrow.Rule.Slice.PartMut.{mid_of, post_of, put_mid}
use Rattle.syslog_elements.specs.StructuredData.Element.{ElementValue}

zip_append : {A B : Type 0} (R : A → B → Type 0) (xs ys : List A) (us vs : List B) → AllZip R xs us → AllZip R ys vs
    → AllZip R (xs ++ ys) (us ++ vs)
zip_append R [] ys [] vs t z = z
zip_append R (x ∷ xs) ys (u ∷ us) vs t z = (t.0, zip_append R xs ys us vs t.1 z)
zip_append R xs ys us vs t z = absurd t

drop_next : {A : Type 0} (xs old : List A) (i n : ℕ) → drop i xs ≡ drop i old → drop (i + n) xs ≡ drop (i + n) old
drop_next xs old i n e = sym (drop-drop n i xs) ∙ ap (drop n) e ∙ drop-drop n i old

pub begun_none : {A B : Type 0} (R : A → B → Type 0) (xs : List A) → IsBegun R [] xs xs
begun_none R xs = record { begins = tt; after = refl }

-- where none is written, the array is as it was
pub begun_nothing : {A B : Type 0} (R : A → B → Type 0) (old new : List A) → IsBegun R [] old new → new ≡ old
begun_nothing R old new b = b.after

-- one more is written
pub begun_next : {A B : Type 0} (R : A → B → Type 0) (vs : List B) (v : B) (old xs : List A) (i : ℕ) (x : A)
    → length vs ≡ i → i < length xs → IsBegun R vs old xs → R x v → IsBegun R (vs ++ (v ∷ [])) old (set xs i x)
begun_next R vs v old xs i x long l b r =
    let longer : length (vs ++ (v ∷ [])) ≡ i + 1 = length-append vs (v ∷ []) ∙ ap (λ (n : ℕ). n + 1) long in
    record {
      begins = rw (longer, take_more_set xs i x l)
          (zip_append R (take i xs) (x ∷ []) vs (v ∷ []) (rw long at b.begins) (r, tt));
      after = rw longer (drop-set-lt (i + 1) xs i x (omega arith) ∙ drop_next xs old i 1 (rw long at b.after));
    }

-- one more is written of values that are seen through a view
pub begun_more : {A B C : Type 0} (R : A → B → Type 0) (view : C → B) (ps : List C) (d : C) (old xs : List A) (i : ℕ)
    (x : A)
    → i < length ps → i < length xs → IsBegun R (map view (take i ps)) old xs → R x (view (get_or ps i d))
    → IsBegun R (map view (take (i + 1) ps)) old (set xs i x)
begun_more {A} {B} R view ps d old xs i x few l b r =
    let more : map view (take (i + 1) ps) ≡ map view (take i ps) ++ (view (get_or ps i d) ∷ []) =
    ap (map view) (take_more ps i d few) ∙ map-append view (take i ps) (get_or ps i d ∷ []) in
    subst (λ (vs : List B). IsBegun R vs old (set xs i x)) (sym more)
    (begun_next R (map view (take i ps)) (view (get_or ps i d)) old xs i x
    (length-map (take i ps) view ∙ length-take-le i ps (omega arith)) l b r)

-- values more are written from there on
pub begun_part : {A B : Type 0} (R : A → B → Type 0) (vs us : List B) (old xs sub : List A) (at : ℕ)
    → length vs ≡ at → at + length us ≤ length xs → IsBegun R vs old xs
    → IsBegun R us (mid_of at (length xs - at) xs) sub → length sub ≡ length (mid_of at (length xs - at) xs)
    → IsBegun R (vs ++ us) old (put_mid at (length xs - at) xs sub)
begun_part R vs us old xs sub at long fits b s same =
    let p = take at xs in
    let n = length us in
    let longer : length (vs ++ us) ≡ at + n = length-append vs us ∙ ap (λ (k : ℕ). k + n) long in
    let long_p : length p ≡ at = length-take-le at xs (omega arith) in
    let long_after = length-drop at xs in
    let mid : mid_of at (length xs - at) xs ≡ drop at xs = take_all _ _ (omega arith) in
    let none : post_of at (length xs - at) xs ≡ [] =
    drop_of_length-le (drop at xs) {i = length xs - at} (omega arith) in
    let stays : drop n sub ≡ drop n (drop at xs) = rw (← mid) s.after in
    let front : take (at + n) (p ++ sub) ≡ p ++ take n sub =
    ap (λ m. take (m + n) (p ++ sub)) (sym long_p) ∙ take-append-add p sub n in
    record {
      begins = rw (longer, none, append-nil, front)
          (zip_append R p (take n sub) vs us (rw long at b.begins) s.begins);
      after = rw (longer, none, append-nil) (ap (λ m. drop (m + n) (p ++ sub)) (sym long_p)
          ∙ drop-append-add p sub n ∙ stays ∙ drop-drop n at xs ∙ drop_next xs old at n (rw long at b.after));
    }

-- an array keeps its length where a part of it is written
pub put_length : {A : Type 0} (at : ℕ) (xs sub : List A) → at ≤ length xs
    → length sub ≡ length (mid_of at (length xs - at) xs) → length (put_mid at (length xs - at) xs sub) ≡ length xs
put_length at xs sub l same =
    let long_after = length-drop at xs in
    let long_p = length-take-le at xs l in
    let mid : mid_of at (length xs - at) xs ≡ drop at xs = take_all _ _ (omega arith) in
    let none : post_of at (length xs - at) xs ≡ [] =
    drop_of_length-le (drop at xs) {i = length xs - at} (omega arith) in
    rw (none, append-nil)
    (omega (arith, length-append (take at xs) sub, same, ap length mid))

-- the parameters of one element more
pub all_params_more : (es : List ElementValue) (e : ElementValue)
    → all_params (es ++ (e ∷ [])) ≡ all_params es ++ e.params
all_params_more es e = rw (flat_map-append, append-nil) refl

pub all_params_length : (es : List ElementValue) → length (all_params es) ≡ sum_by (λ e. length e.params) es
all_params_length [] = refl
all_params_length (e ∷ es) =
    length-append e.params (all_params es) ∙ ap (λ (n : ℕ). length e.params + n) (all_params_length es)
    ∙ sym (sum_by-cons (λ d. length d.params) e es)
