-- Equality of elements is an equivalence, and says that the parameters are the same in some order.
use Rattle.std.specs.Prelude.{◌≡◌, ◌<◌, ◌+◌, true, cond, List, [], ◌∷◌, ◌++◌, length, nat_eq, refl, IsPermutation}
use Rattle.std.specs.{Bool.Decides, Bool.one_answer, Cmp.IsEquivalence, Cmp.on_equiv, Cmp.and_equiv}
use Rattle.std.specs.Cmp.Lexicographic.{nat_list_eq_equiv, bytes_decides}
use Rattle.std.proofs.Common.{sym, ◌∙◌, arith, inl, inr, ap, subst, zero-add}
use Rattle.std.proofs.lemmas.Bool.{and_parts, and_from, eqb-true, eq-eqb, cases_Bool, cases_lt}
use Rattle.std.proofs.lemmas.List.Sums.{sum_by-cons, sum_by-append}
use Rattle.std.proofs.lemmas.List.Sorted.{IsPermutation-refl, IsPermutation-sym, IsPermutation-cons, length_permutation}
use Rattle.std.proofs.lemmas.List.Sorted.{IsPermutation-trans, IsPermutation-middle, sum_by-IsPermutation}
use Rattle.syslog_text.specs.Pieces.{Class.Text, View.text_eq}
use Rattle.syslog_elements.specs.StructuredData.{Element.ElementValue, Equal.param_count, Equal.param_eq}
use Rattle.syslog_elements.specs.StructuredData.Equal.{IsSameInSomeOrder, element_eq, same_params, counts_agree}

abbrev pub Param : Type 0
Param = Text × Text

-- parameters that compare equal are the same, and the same compare equal
pub param_eq-same : (p q : Param) → param_eq p q ≡ true → p ≡ q
param_eq-same p q e =
    let both = and_parts (text_eq p.0 q.0) (text_eq p.1 q.1) e in
    let names : p.0 ≡ q.0 = (bytes_decides p.0 q.0).0 both.0 in
    let values : p.1 ≡ q.1 = (bytes_decides p.1 q.1).0 both.1 in
    λ i. (names i, values i)

pub param_eq-refl : (p : Param) → param_eq p p ≡ true
param_eq-refl p = and_from _ _ (nat_list_eq_equiv.refl p.0) (nat_list_eq_equiv.refl p.1)

-- the count of a list by its first parameter
pub param_count-cons : (p x : Param) (ps : List Param)
    → param_count p (x ∷ ps) ≡ cond (param_eq p x) 1 0 + param_count p ps
param_count-cons p x ps = sum_by-cons (λ q. cond (param_eq p q) 1 0) x ps

-- ---- a parameter that is in a list can be taken out of it

pub record IsTakenOut (p : Param) (qs : List Param) : Type 0 where
  pub before : List Param
  pub after : List Param
  pub whole : qs ≡ before ++ p ∷ after

one_before : (q : Param) {p : Param} {qs : List Param} → IsTakenOut p qs → IsTakenOut p (q ∷ qs)
one_before q t = record { before = q ∷ t.before; after = t.after; whole = ap (λ (l : List Param). q ∷ l) t.whole }

pub taken_out : (p : Param) (qs : List Param) → 0 < param_count p qs → IsTakenOut p qs
taken_out p [] some = absurd (omega arith)
taken_out p (q ∷ qs) some = elim (cases_Bool (param_eq p q)) [
  | inl equal ↦ record { before = []; after = qs; whole = ap (λ (x : Param). x ∷ qs) (sym (param_eq-same p q equal)) }
  | inr differ ↦ one_before q (taken_out p qs (rw (param_count-cons p q qs, differ, zero-add) at some))
]

-- the list is the parameter and the rest, in another order
abbrev rest_of : {p : Param} {qs : List Param} → IsTakenOut p qs → List Param
rest_of t = t.before ++ t.after

in_front : (p : Param) (qs : List Param) (t : IsTakenOut p qs) → IsPermutation (p ∷ rest_of t) qs
in_front p qs t = subst (IsPermutation (p ∷ rest_of t)) (sym t.whole)
    (IsPermutation-sym _ _ (IsPermutation-middle t.before p t.after))

-- ---- permutations are the lists with the same counts

-- two lists hold each parameter equally often
abbrev pub SameCounts : List Param → List Param → Type 0
SameCounts ps qs = (p : Param) → param_count p ps ≡ param_count p qs

-- each parameter that is in the first list is equally often in the second
abbrev pub CountsAgree : List Param → List Param → Type 0
CountsAgree ps qs = (p : Param) → 0 < param_count p ps → param_count p ps ≡ param_count p qs

pub counts_of_permutation : (ps qs : List Param) → IsPermutation ps qs → SameCounts ps qs
counts_of_permutation ps qs same p = sym (sum_by-IsPermutation (λ q. cond (param_eq p q) 1 0) ps qs same)

-- where all counts agree, they agree on any list that is gone through
pub counts_agree-from : (these ps qs : List Param) → SameCounts ps qs → counts_agree these ps qs ≡ true
counts_agree-from [] ps qs same = refl
counts_agree-from (x ∷ these) ps qs same = and_from _ _ (eq-eqb _ _ (same x)) (counts_agree-from these ps qs same)

-- a parameter that is in the list that was gone through is equally often in both
pub counts_agree-at : (these ps qs : List Param) (p : Param) → counts_agree these ps qs ≡ true → 0 < param_count p these
    → param_count p ps ≡ param_count p qs
counts_agree-at [] ps qs p e some = absurd (omega arith)
counts_agree-at (x ∷ these) ps qs p e some =
    let both = and_parts (nat_eq (param_count x ps) (param_count x qs)) (counts_agree these ps qs) e in
    elim (cases_Bool (param_eq p x)) [
      | inl equal ↦ rw (param_eq-same p x equal) (eqb-true _ _ both.0)
      | inr differ ↦ counts_agree-at these ps qs p both.1 (rw (param_count-cons p x these, differ, zero-add) at some)
    ]

-- the first parameter is in its own list
first_counted : (x : Param) (ps : List Param) → 0 < param_count x (x ∷ ps)
first_counted x ps = let one = param_count-cons x x ps in let same = param_eq-refl x in rw (one, same) (omega arith)

-- taking the first parameter out of both lists leaves their counts in agreement
agree_after : (x : Param) (ps qs : List Param) (t : IsTakenOut x qs) → CountsAgree (x ∷ ps) qs
    → CountsAgree ps (rest_of t)
agree_after x ps qs t agree p some =
    let one = param_count-cons p x ps in
    let other = param_count-cons p x (rest_of t) in
    let moved = counts_of_permutation _ _ (in_front x qs t) p in
    let whole = agree p (omega (arith, one, some)) in
    omega (arith, one, other, moved, whole)

length_after : (x : Param) (qs : List Param) (t : IsTakenOut x qs) → length qs ≡ length (x ∷ rest_of t)
length_after x qs t = length_permutation _ _ (in_front x qs t)

put_in_front : (x : Param) (ps qs : List Param) (t : IsTakenOut x qs) → IsPermutation ps (rest_of t)
    → IsPermutation (x ∷ ps) qs
put_in_front x ps qs t h = IsPermutation-trans _ _ _ (IsPermutation-cons x _ _ h) (in_front x qs t)

-- lists of one length are in agreement as soon as the first's parameters are
pub permuted : (ps qs : List Param) → length ps ≡ length qs → CountsAgree ps qs → IsPermutation ps qs
permuted [] [] long agree = IsPermutation-refl []
permuted [] (q ∷ qs) long agree = absurd (omega (arith, long))
permuted (x ∷ ps) qs long agree =
    let first = first_counted x ps in
    let t = taken_out x qs (rw (← agree x first) first) in
    let shorter = length_after x qs t in
    put_in_front x ps qs t (permuted ps (rest_of t) (omega (arith, long, shorter)) (agree_after x ps qs t agree))

-- lists with the same counts have one length
pub length_of_counts : (ps qs : List Param) → SameCounts ps qs → length ps ≡ length qs
length_of_counts [] [] same = refl
length_of_counts [] (q ∷ qs) same = let first = first_counted q qs in let e = same q in absurd (omega (arith, first, e))
length_of_counts (x ∷ ps) qs same =
    let first = first_counted x ps in
    let t = taken_out x qs (rw (← same x) first) in
    let shorter = length_after x qs t in
    let rest = length_of_counts ps (rest_of t) (λ p.
    let one = param_count-cons p x ps in
    let other = param_count-cons p x (rest_of t) in
    let moved = counts_of_permutation _ _ (in_front x qs t) p in
    let whole = same p in omega (arith, one, other, moved, whole)) in
    omega (arith, shorter, rest)

pub permuted_by_counts : (ps qs : List Param) → SameCounts ps qs → IsPermutation ps qs
permuted_by_counts ps qs same = permuted ps qs (length_of_counts ps qs same) (λ p some. same p)

-- ---- the test decides this

pub same_params-counts : (ps qs : List Param) → same_params ps qs ≡ true → SameCounts ps qs
same_params-counts ps qs e p =
    let both = sum_by-append (λ q. cond (param_eq p q) 1 0) ps qs in
    elim (cases_lt 0 (param_count p (ps ++ qs))) [
      | inl some ↦ counts_agree-at (ps ++ qs) ps qs p e some
      | inr none ↦ omega (arith, both, none)
    ]

pub same_params-from : (ps qs : List Param) → SameCounts ps qs → same_params ps qs ≡ true
same_params-from ps qs same = counts_agree-from (ps ++ qs) ps qs same

pub same_params-decides : (ps qs : List Param) → Decides (same_params ps qs) (SameCounts ps qs)
same_params-decides ps qs = (same_params-counts ps qs, same_params-from ps qs)

pub same_params-permutation : (ps qs : List Param) → Decides (same_params ps qs) (IsPermutation ps qs)
same_params-permutation ps qs = (
  λ e. permuted_by_counts ps qs (same_params-counts ps qs e),
  λ h. same_params-from ps qs (counts_of_permutation ps qs h),
)

pub same_params-equivalence : IsEquivalence same_params
same_params-equivalence = record {
  refl = λ ps. same_params-from ps ps (λ p. refl);
  symm = λ ps qs. one_answer _ _ (same_params-decides ps qs)
      (λ e p. sym (same_params-counts qs ps e p), λ same. same_params-from qs ps (λ p. sym (same p)));
  congr = λ ps qs rs e.
      let same = same_params-counts ps qs e in
      one_answer _ _ (same_params-decides ps rs)
      (λ f p. same p ∙ same_params-counts qs rs f p, λ other. same_params-from qs rs (λ p. sym (same p) ∙ other p));
}

pub element_equivalence : IsEquivalence element_eq
element_equivalence =
    and_equiv (on_equiv (λ e. e.id) nat_list_eq_equiv) (on_equiv (λ e. e.params) same_params-equivalence)

pub element_eq-decides : (a b : ElementValue) → Decides (element_eq a b) (IsSameInSomeOrder a b)
element_eq-decides a b =
    let ids = bytes_decides a.id b.id in
    let params = same_params-permutation a.params b.params in (
      λ e. let both = and_parts (text_eq a.id b.id) (same_params a.params b.params) e in
          (ids.0 both.0, params.0 both.1),
      λ same. and_from _ _ (ids.1 same.0) (params.1 same.1),
    )
