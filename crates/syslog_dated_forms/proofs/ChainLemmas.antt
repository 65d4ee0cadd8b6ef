-- Readers chained by `and_then`: the pieces that they read, or the first of them that is missing. The last of them may
-- also return what its piece means.
use Rattle.syslog_dated_forms.proofs.Names.{[], ◌++◌, ◌∷◌, ◌≡◌, AllDeterministic, Bor, Class, Front, inl, inr, List}
use Rattle.syslog_dated_forms.proofs.Names.{match_map, MatchOption, no_row, no_row_division, NoDivision, NoFront, None}
use Rattle.syslog_dated_forms.proofs.Names.{Option, Recognises, refl, Row, row_cons, row_nil, row_none_here}
use Rattle.syslog_dated_forms.proofs.Names.{row_none_later, shown, Some, subst, sym, Text, Values}
use Rattle.std.specs.Prelude.{ℕ}
use Rattle.syslog_text.proofs.PieceLemmas.Class.{Fails, Pieces, both_values}

-- what a reader of texts returns
abbrev pub Left : Type 0
Left = Option (Bor (List ℕ))

-- Each reader reads what the one before it left, and nothing where that found nothing.
infixr 20 ◌next◌
pub data Chain : List Class → Left → Left → Type 1 where
  end : {r : Left} → Chain [] r r
  ◌next◌ : {C : Class} {Cs : List Class} {r m l : Left} → MatchOption r (m ≡ None) (λ x. Recognises C (shown x) m)
      → Chain Cs m l → Chain (C ∷ Cs) r l

-- the same, by recursion on the row
abbrev Steps : List Class → Left → Left → Type 0
Steps [] r l = r ≡ l
Steps (C ∷ Cs) r l = (m : Left) × MatchOption r (m ≡ None) (λ x. Recognises C (shown x) m) × Steps Cs m l

steps : {Cs : List Class} {r l : Left} → Chain Cs r l → Steps Cs r l
steps end = refl
steps (h next k) = (_, h, steps k)

-- once nothing is read, nothing is read any more
ended : (Cs : List Class) (l : Left) → Steps Cs None l → l ≡ None
ended [] l e = sym e
ended (C ∷ Cs) l (m, e, k) = ended Cs l (subst (λ (z : Left). Steps Cs z l) e k)

-- ---- a row

read_row : (Cs : List Class) → AllDeterministic Cs → (x : Bor (List ℕ)) (l : Left) → Steps Cs (Some x) l
    → Recognises (Row Cs) (shown x) l
read_row [] d x l e = subst (λ (z : Left). Recognises (Row []) (shown x) z) e (tt, row_nil (shown x))
read_row (C ∷ Cs) d x l (None, n, k) = subst (λ (z : Left). Recognises (Row (C ∷ Cs)) (shown x) z)
    (sym (ended Cs l k)) (row_none_here C Cs n)
read_row (C ∷ Cs) d x l (Some y, (v, f), k) = match_map l (row_none_later C Cs d.0 f)
    (λ q (vs, g). ((v, vs), row_cons C Cs f g)) (read_row Cs d.1 y l k)

-- the readers of a row's classes, one after the other, read the row
pub chain_row : {Cs : List Class} {x : Bor (List ℕ)} {l : Left} → AllDeterministic Cs → Chain Cs (Some x) l
    → Recognises (Row Cs) (shown x) l
chain_row {Cs} {x} {l} d k = read_row Cs d x l (steps k)

-- ---- within a longer row

missing : (Cs : List Class) (D : Class) (Ds : List Class) (N : Type 0) (x : Bor (List ℕ)) (l : Left)
    → Steps Cs (Some x) l → MatchOption l N (λ y. NoFront D (shown y)) → Fails (Cs ++ (D ∷ Ds)) (shown x)
missing [] D Ds N x l e n = inl (subst (λ (z : Left). MatchOption z N (λ y. NoFront D (shown y))) (sym e) n)
missing (C ∷ Cs) D Ds N x l (None, h, k) n = inl h
missing (C ∷ Cs) D Ds N x l (Some y, (v, f), k) n = inr (shown y, v, f, missing Cs D Ds N y l k n)

-- the last reader returned nothing: a piece is missing
pub chain_fails : {Cs : List Class} (D : Class) (Ds : List Class) (N : Type 0) {x : Bor (List ℕ)} {l : Left}
    → Chain Cs (Some x) l → MatchOption l N (λ y. NoFront D (shown y)) → Fails (Cs ++ (D ∷ Ds)) (shown x)
chain_fails {Cs} D Ds N {x} {l} k = missing Cs D Ds N x l (steps k)

read_past : (Cs : List Class) (D : Class) (Ds : List Class) (v : D.Value) (q : Text) (N : Type 0) (x : Bor (List ℕ))
    (l : Left) → Steps Cs (Some x) l → (N → ⊥) → MatchOption l N (λ y. Front D (shown y) q v) → Fails Ds q
    → Fails (Cs ++ (D ∷ Ds)) (shown x)
read_past [] D Ds v q N x l e n g f =
    inr (q, v, subst (λ (z : Left). MatchOption z N (λ y. Front D (shown y) q v)) (sym e) g, f)
read_past (C ∷ Cs) D Ds v q N x l (None, h, k) n g f = inl h
read_past (C ∷ Cs) D Ds v q N x l (Some y, (u, i), k) n g f =
    inr (shown y, u, i, read_past Cs D Ds v q N y l k n g f)

-- it returned what its piece means, and a piece after that is missing
pub chain_past : {Cs : List Class} (D : Class) (Ds : List Class) (v : D.Value) (q : Text) {N : Type 0}
    {x : Bor (List ℕ)} {l : Left} → Chain Cs (Some x) l → (N → ⊥) → MatchOption l N (λ y. Front D (shown y) q v)
    → Fails Ds q → Fails (Cs ++ (D ∷ Ds)) (shown x)
chain_past {Cs} D Ds v q {N} {x} {l} k = read_past Cs D Ds v q N x l (steps k)

reached : (Cs : List Class) (D : Class) (Ds : List Class) (v : D.Value) (q r : Text) (ws : Values Ds) (N : Type 0)
    (x : Bor (List ℕ)) (l : Left) → Steps Cs (Some x) l → (N → ⊥) → MatchOption l N (λ y. Front D (shown y) q v)
    → Pieces Ds q r ws → (us : Values Cs) × Pieces (Cs ++ (D ∷ Ds)) (shown x) r (both_values Cs (D ∷ Ds) us (v, ws))
reached [] D Ds v q r ws N x l e n g p =
    (tt, (q, subst (λ (z : Left). MatchOption z N (λ y. Front D (shown y) q v)) (sym e) g, p))
reached (C ∷ Cs) D Ds v q r ws N x l (None, h, k) n g p =
    absurd (n (subst (λ (z : Left). MatchOption z N (λ y. Front D (shown y) q v)) (ended Cs l k) g))
reached (C ∷ Cs) D Ds v q r ws N x l (Some y, (u, f), k) n g p =
    let (us, more) = reached Cs D Ds v q r ws N y l k n g p in ((u, us), (shown y, f, more))

-- it returned what its piece means, after which the others follow
pub chain_reads : {Cs : List Class} (D : Class) (Ds : List Class) (v : D.Value) (q r : Text) (ws : Values Ds)
    {N : Type 0} {x : Bor (List ℕ)} {l : Left} → Chain Cs (Some x) l → (N → ⊥)
    → MatchOption l N (λ y. Front D (shown y) q v) → Pieces Ds q r ws
    → (us : Values Cs) × Pieces (Cs ++ (D ∷ Ds)) (shown x) r (both_values Cs (D ∷ Ds) us (v, ws))
chain_reads {Cs} D Ds v q r ws {N} {x} {l} k = reached Cs D Ds v q r ws N x l (steps k)

-- a text in which a piece is missing is not of the form
pub undivided : (Cs : List Class) → AllDeterministic Cs → {t : Text} → Fails Cs t → NoDivision Cs t
undivided Cs d h = no_row_division Cs (no_row Cs d h)
