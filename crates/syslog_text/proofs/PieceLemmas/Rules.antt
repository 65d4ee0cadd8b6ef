-- The words of grammars: one text has one front of each, and what their readers return.
use Rattle.std.proofs.Common.{◌≡◌, ◌≢◌, ◌⊎◌, inl, inr, ℕ, ◌<◌, Bool, true, false, List, [], ◌∷◌, ◌++◌, length, Option}
use Rattle.std.proofs.Common.{Some, None}
use Rattle.std.proofs.Common.{refl, sym, ap, subst, ◌∙◌, append-nil, arith, length-append, MatchOption}
use Rattle.std.specs.Borrow.{Bor}
use Rattle.std.specs.List.{AllByRecursion, flat_map}
use Rattle.std.specs.Bool.{then_some}
use Rattle.std.specs.Prelude.{◌↔◌, IsSomeAnd, MatchBool}
use Rattle.syslog_text.specs.Pieces.Class.{Text, Class, Front, NoFront, IsDeterministic, Row, after}
use Rattle.syslog_text.specs.Pieces.Class.{exactly, join, mapped, texted}
use Rattle.syslog_text.specs.Pieces.Lists.{many}
use Rattle.syslog_text.specs.Pieces.Rules.{short_run, ◌or◌, such_that}
use Rattle.syslog_text.specs.Pieces.View.{Recognises, Skips, shown}
use Rattle.syslog_text.proofs.PieceLemmas.Class.{AllDeterministic, run_same, front_of, front_same, no_front_no}
use Rattle.syslog_text.proofs.PieceLemmas.Class.{match_map}
use Rattle.syslog_text.proofs.PieceLemmas.Class.{row_none_here, row_none_later, row_cons, row_nil, heads}
use Rattle.syslog_text.proofs.PieceLemmas.Class.{no_texted, texted_front, no_mapped, mapped_front}
use Rattle.syslog_text.proofs.PieceLemmas.Lists.{many_here, many_cons, many_none, many_parts}

-- ---- short runs
pub short_run_det : (test : ℕ → Bool) (most : ℕ) → IsDeterministic (short_run test most)
short_run_det test most w q w' q' v v' e h h' = (run_same test w q w' q' e h.2 h.3 h'.2 h'.3, refl)

-- ---- one of two classes

-- no text has a front of each
abbrev pub AreApart : Class → Class → Type 0
AreApart C D = (p q p' q' : Text) (v : C.Value) (w : D.Value) → p ++ q ≡ p' ++ q' → C.Is p q v → D.Is p' q' w → ⊥

pub or_det : {C D : Class} → IsDeterministic C → IsDeterministic D → AreApart C D → IsDeterministic (C or D)
or_det c d n p q p' q' (inl v) (inl w) e h h' = let r = c p q p' q' v w e h h' in (r.0, ap inl r.1)
or_det c d n p q p' q' (inl v) (inr w) e h h' = absurd (n p q p' q' v w e h h')
or_det c d n p q p' q' (inr v) (inl w) e h h' = absurd (n p' q' p q w v (sym e) h' h)
or_det c d n p q p' q' (inr v) (inr w) e h h' = let r = d p q p' q' v w e h h' in (r.0, ap inr r.1)

-- each piece of the class begins with a character that has a property
abbrev pub Opens : Class → (ℕ → Type 0) → Type 0
Opens C H = (p q : Text) (v : C.Value) → C.Is p q v → (c : ℕ) × (t : Text) × (p ≡ c ∷ t) × H c

pub row_opens : (C : Class) (Cs : List Class) (H : ℕ → Type 0) → Opens C H → Opens (Row (C ∷ Cs)) H
row_opens C Cs H o p q vs ([], e, h) = absurd h
row_opens C Cs H o p q vs (a ∷ ps, e, h) =
    let (c, t, f, k) = o a (join ps ++ q) vs.0 h.0 in (c, t ++ join ps, e ∙ ap (λ (x : Text). x ++ join ps) f, k)

-- a character, and a class whose pieces begin with others
pub exactly_apart : (c : ℕ) (D : Class) → Opens D (λ d. d ≢ c) → AreApart (exactly (c ∷ [])) D
exactly_apart c D o p q p' q' v w e h k =
    let (d, t, f, n) = o p' q' w k in n (sym (heads c d q (t ++ q') (rw (h, f) at e)))

-- a piece of the first class, which needs no look at the second
pub first_of : {C D : Class} {t q : Text} {v : C.Value} → Front C t q v → (w : C.Value ⊎ D.Value) × Front (C or D) t q w
first_of {v = v} f = (inl v, front_of f.piece f.whole f.is)

no_or : {C D : Class} {t : Text} → NoFront C t → NoFront D t → NoFront (C or D) t
no_or n m p q (inl v) e h = n p q v e h
no_or n m p q (inr w) e h = m p q w e h

pub second_front : {C D : Class} {t q : Text} {w : D.Value} → Front D t q w → Front (C or D) t q (inr w)
second_front f = front_of f.piece f.whole f.is

-- what a reader of the second returns where there is no piece of the first
pub second_of : (C D : Class) {t : Text} (r : Option (Bor (List ℕ))) → NoFront C t → Recognises D t r
    → Recognises (C or D) t r
second_of C D r n = match_map r (no_or n) (λ q (w, f). (inr w, front_of f.piece f.whole f.is))

-- ---- a class with a property
pub such_det : (C : Class) (P : C.Value → Type 0) → IsDeterministic C → IsDeterministic (such_that C P)
such_det C P d p q p' q' v v' e h h' = d p q p' q' v v' e h.0 h'.0

pub such_front : (C : Class) (P : C.Value → Type 0) {t q : Text} {v : C.Value} → Front C t q v → P v
    → Front (such_that C P) t q v
such_front C P f h = front_of f.piece f.whole (f.is, h)

pub no_such_front : (C : Class) (P : C.Value → Type 0) {t : Text} → NoFront C t → NoFront (such_that C P) t
no_such_front C P n p q v e h = n p q v e h.0

-- the one front of the class has another meaning
pub no_such_meaning : (C : Class) (P : C.Value → Type 0) → IsDeterministic C → {t q : Text} {v : C.Value}
    → Front C t q v
    → (P v → ⊥) → NoFront (such_that C P) t
no_such_meaning C P d f n p q v e h = n (subst P (front_same C d (front_of p e h.0) f).1 h.1)

-- what a reader returns after a front of the class, by a test of its meaning
pub such_reads : (C : Class) (P : C.Value → Type 0) → IsDeterministic C
    → {t : Text} {v : C.Value} (q : Bor (List ℕ)) (b : Bool)
    (r : Option (Bor (List ℕ))) → Front C t (shown q) v → MatchBool b (P v) (P v → ⊥) → r ≡ then_some b q
    → Recognises (such_that C P) t r
such_reads C P d {v = v} q true r f h e = rw e (v, such_front C P f h)
such_reads C P d q false r f h e = rw e (no_such_meaning C P d f h)

-- ---- rows, by readers one after the other

-- a reader of one character is a recogniser; and so is one that always finds a piece
pub skips : (c : ℕ) (text : Text) (r : Option (Bor (List ℕ))) → Skips (exactly (c ∷ [])) tt text r
    → Recognises (exactly (c ∷ [])) text r
skips c text r = match_map r (λ n. n) (λ q f. (tt, f))

pub always_on : (C : Class) (r m : Option (Bor (List ℕ)))
    → MatchOption r (m ≡ None) (λ x. IsSomeAnd m (λ y. (v : C.Value) × Front C (shown x) (shown y) v))
    → MatchOption r (m ≡ None) (λ x. Recognises C (shown x) m)
always_on C r None = match_map r (λ e. e) (λ x h. absurd h)
always_on C r (Some y) = match_map r (λ e. e) (λ x h. h)

pub texted_on : (C : Class) (r m : Option (Bor (List ℕ))) → MatchOption r (m ≡ None) (λ x. Recognises C (shown x) m)
    → MatchOption r (m ≡ None) (λ x. Recognises (texted C) (shown x) m)
texted_on C r m = match_map r (λ e. e)
    (λ x h. match_map m (λ n. no_texted C n) (λ y (v, f). (f.piece, texted_front C f)) h)

-- a class with another meaning
pub mapped_reads : (C : Class) (B : Type 0) (f : C.Value → B) (text : Text) (r : Option (Bor (List ℕ)))
    → Recognises C text r
    → Recognises (mapped C B f) text r
mapped_reads C B f text r = match_map r (λ n. no_mapped C B f n) (λ y (v, g). (f v, mapped_front C B f g))

-- each reader reads what the one before it left, and nothing where that found nothing
abbrev pub Chained : List Class → Option (Bor (List ℕ)) → List (Option (Bor (List ℕ))) → Type 0
Chained [] r [] = Unit {0}
Chained [] r (m ∷ ms) = ⊥
Chained (C ∷ Cs) r [] = ⊥
Chained (C ∷ Cs) r (m ∷ ms) = MatchOption r (m ≡ None) (λ x. Recognises C (shown x) m) × Chained Cs m ms

-- what the last of them returned
abbrev pub last_of : Option (Bor (List ℕ)) → List (Option (Bor (List ℕ))) → Option (Bor (List ℕ))
last_of r [] = r
last_of r (m ∷ ms) = last_of m ms

chained : (Cs : List Class) → AllDeterministic Cs → (r : Option (Bor (List ℕ))) (ms : List (Option (Bor (List ℕ))))
    → Chained Cs r ms
    → MatchOption r (last_of r ms ≡ None) (λ x. Recognises (Row Cs) (shown x) (last_of r ms))
chained [] d None [] h = refl
chained [] d (Some x) [] h = (tt, row_nil (shown x))
chained [] d r (m ∷ ms) h = absurd h
chained (C ∷ Cs) d r [] h = absurd h
chained (C ∷ Cs) d None (m ∷ ms) (e, l) =
    ap (λ (x : Option (Bor (List ℕ))). last_of x ms) e
    ∙ chained Cs d.1 None ms (subst (λ (x : Option (Bor (List ℕ))). Chained Cs x ms) e l)
chained (C ∷ Cs) d (Some x) (None ∷ ms) (n, l) =
    subst (λ (y : Option (Bor (List ℕ))). Recognises (Row (C ∷ Cs)) (shown x) y) (sym (chained Cs d.1 None ms l))
    (row_none_here C Cs n)
chained (C ∷ Cs) d (Some x) (Some y ∷ ms) ((v, f), l) = match_map (last_of (Some y) ms) (row_none_later C Cs d.0 f)
    (λ q (vs, g). ((v, vs), row_cons C Cs f g)) (chained Cs d.1 (Some y) ms l)

-- the readers of a row's classes, one after the other, read the row
pub row_reads : (Cs : List Class) → AllDeterministic Cs → (text : Bor (List ℕ)) (ms : List (Option (Bor (List ℕ))))
    → Chained Cs (Some text) ms → Recognises (Row Cs) (shown text) (last_of (Some text) ms)
row_reads Cs d text ms h = chained Cs d (Some text) ms h

-- ---- several pieces of one class, read from the left

-- pieces of the class with these meanings begin the first text, and the second one is left
pub data Runs (C : Class) : Text → List C.Value → Text → Type 0 where
  no_run : {t : Text} → Runs C t [] t
  one_run : {t s u : Text} {v : C.Value} {vs : List C.Value} → Front C t s v → Runs C s vs u → Runs C t (v ∷ vs) u

pub runs_more : {C : Class} {t s u : Text} {vs : List C.Value} {v : C.Value} → Runs C t vs s → Front C s u v
    → Runs C t (vs ++ v ∷ []) u
runs_more no_run f = one_run f no_run
runs_more (one_run g r) f = one_run g (runs_more r f)

pub runs_joined : {C : Class} {t s u : Text} {vs ws : List C.Value} → Runs C t vs s → Runs C s ws u
    → Runs C t (vs ++ ws) u
runs_joined no_run r = r
runs_joined (one_run g r) s = one_run g (runs_joined r s)

-- as many as there are
pub runs_all : {C : Class} {t u : Text} {vs : List C.Value} → Runs C t vs u → NoFront C u → Front (many C) t u vs
runs_all {C} {u = u} no_run n = many_here C u n
runs_all {C} (one_run f r) n = many_cons C f (runs_all r n)

-- those that were read are the first of all
pub runs_left : {C : Class} → IsDeterministic C → {t u q : Text} {vs : List C.Value} (ws : List C.Value) → Runs C t vs u
    → Front (many C) t q ws → (us : List C.Value) × (ws ≡ vs ++ us) × Front (many C) u q us
runs_left d ws no_run f = (ws, refl, f)
runs_left {C} d {t = t} {q = q} [] (one_run f r) g = absurd (no_front_no C (many_none C t q g) f)
runs_left {C} d {q = q} (w ∷ ws) (one_run {v = v} {vs = vs} f r) g =
    let (u, h, more) = many_parts C g in
    let (same, e) = front_same C d h f in
    let (us, k, others) = runs_left d ws r (subst (λ (x : Text). Front (many C) x q ws) same more) in
    (us, cc (e, k), others)

-- the first of them, and the others
pub many_left : {C : Class} → IsDeterministic C → {t u q : Text} {v : C.Value} (ws : List C.Value) → Front C t u v
    → Front (many C) t q ws → (us : List C.Value) × (ws ≡ v ∷ us) × Front (many C) u q us
many_left d ws f g = runs_left d ws (one_run f no_run) g

-- there are none
pub none_left : {C : Class} {t q : Text} (ws : List C.Value) → NoFront C t → Front (many C) t q ws → ws ≡ []
none_left [] n f = refl
none_left {C} (w ∷ ws) n f = absurd (let (u, g, more) = many_parts C f in no_front_no C n g)

-- what follows a piece after a character is shorter than the text
pub after_shorter : (c : ℕ) (C : Class) {t q : Text} {v : C.Value} → Front (after c C) t q v → length q < length t
after_shorter c C {q = q} f = omega (arith, ap length f.whole, length-append f.piece q, ap length f.is.1)

-- the whole text is a piece of the class
pub all_of : {C : Class} {t q : Text} {v : C.Value} → Front C t q v → q ≡ [] → C.Is t [] v
all_of {C} {t = t} {q = q} {v = v} f e =
    let same : f.piece ≡ t = sym (f.whole ∙ ap (λ (x : Text). f.piece ++ x) e ∙ append-nil f.piece) in
    subst (λ (x : Text). C.Is x [] v) same (subst (λ (x : Text). C.Is f.piece x v) e f.is)

-- ---- classes that are known by how their meanings print

-- its pieces are what the meanings that have the property print, whatever follows
abbrev pub Prints : (C : Class) → (C.Value → Text) → (C.Value → Type 0) → Type 0
Prints C print P = (p q : Text) (v : C.Value) → C.Is p q v ↔ ((p ≡ print v) × P v)

pub after_prints : (c : ℕ) (C : Class) (print : C.Value → Text) (P : C.Value → Type 0) → Prints C print P
    → Prints (after c C) (λ v. c ∷ print v) P
after_prints c C print P each p q v = (
  (λ (t, e, h). let (f, is) = (each t q v).0 h in (e ∙ ap (λ (x : Text). c ∷ x) f, is)),
  (λ (e, is). (print v, e, (each (print v) q v).1 (refl, is))),
)

-- then a list of them prints so too
pub many_prints : (C : Class) (print : C.Value → Text) (P : C.Value → Type 0) → Prints C print P
    → (p q : Text) (vs : List C.Value)
    → (many C).Is p q vs ↔ ((p ≡ flat_map print vs) × AllByRecursion P vs × NoFront C q)
many_prints C print P each p q [] = (λ h. (h.0, tt, h.1), λ h. (h.0, h.2))
many_prints C print P each p q (v ∷ vs) = (
  (λ (a, b, i, k, more).
      let (e, is) = (each a (b ++ q) v).0 k in
      let (f, are, n) = (many_prints C print P each b q vs).0 more in
      (cc, (is, are), n)),
  (λ (e, are, n). (
    print v,
    flat_map print vs,
    e,
    (each (print v) (flat_map print vs ++ q) v).1 (refl, are.0),
    (many_prints C print P each (flat_map print vs) q vs).1 (refl, are.1, n),
  )),
)
