-- One text has one front of each class, and so one division into a row; and rows, piece by piece.
use Rattle.std.proofs.Common.{◌≡◌, ℕ, Bool, List, [], ◌∷◌, ◌++◌, Some, None, refl, sym, ap, subst, ◌∙◌, append_assoc}
use Rattle.std.proofs.Common.{true, ◌&&◌, false, Option, MatchOption, ◌⊎◌, inl, inr, ◌≤◌, length, arith}
use Rattle.std.proofs.lemmas.List.{append_cancel_left, append-nil, length-append}
use Rattle.std.proofs.lemmas.Bool.{and_from, and_parts}
use Rattle.std.specs.List.{AllByRecursion}
use Rattle.std.specs.Prelude.{◌↔◌, IsTrue}
use Rattle.syslog_text.specs.Pieces.Class.{Text, Class, Front, NoFront, IsDeterministic, join, Values, Divides, Row}
use Rattle.syslog_text.specs.Pieces.Class.{Division, NoDivision, Each, Ends, run, some_run, exactly, rest, optional}
use Rattle.syslog_text.specs.Pieces.Class.{after, mapped, texted}
use Rattle.syslog_text.specs.Pieces.Lists.{IsList, IsMore, list_before}

-- ---- texts

-- what follows equal fronts of equal texts
pub rest_same : (p q p' q' : Text) → p ++ q ≡ p' ++ q' → p ≡ p' → q ≡ q'
rest_same p q p' q' e f = append_cancel_left p q q' (e ∙ (rw (← f) refl))

-- what follows an empty front
pub after_nil : (p q t : Text) → p ≡ [] → p ++ q ≡ t → q ≡ t
after_nil [] q t z e = e
after_nil (c ∷ p) q t z e = cc

-- a piece that is two pieces
pub append_more : (a b c q : Text) → a ≡ b ++ c → a ++ q ≡ b ++ (c ++ q)
append_more a b c q e = ap (λ (x : Text). x ++ q) e ∙ append_assoc b c q

pub heads : (x y : ℕ) (xs ys : Text) → x ∷ xs ≡ y ∷ ys → x ≡ y
heads x y xs ys e = cc

-- ---- runs

-- a text has one maximal run at its front
pub run_same : (test : ℕ → Bool) (w q w' q' : Text) → w ++ q ≡ w' ++ q' → Each test w → Ends test q → Each test w'
    → Ends test q' → w ≡ w'
run_same test [] q [] q' e a b a' b' = refl
run_same test [] [] (d ∷ w') q' e a b a' b' = cc
run_same test [] (c ∷ q) (d ∷ w') q' e a b a' b' = let t = a'.0 in cc
run_same test (c ∷ w) q [] [] e a b a' b' = cc
run_same test (c ∷ w) q [] (d ∷ q') e a b a' b' = let t = a.0 in cc
run_same test (c ∷ w) q (d ∷ w') q' e a b a' b' =
    let t : w ++ q ≡ w' ++ q' = cc in
    let r = run_same test w q w' q' t a.1 b a'.1 b' in cc

pub run_det : (test : ℕ → Bool) → IsDeterministic (run test)
run_det test w q w' q' v v' e h h' = (run_same test w q w' q' e h.0 h.1 h'.0 h'.1, refl)

pub some_run_det : (test : ℕ → Bool) → IsDeterministic (some_run test)
some_run_det test w q w' q' v v' e h h' = (run_same test w q w' q' e h.1 h.2 h'.1 h'.2, refl)

-- ---- one text, what is left, an optional piece, another meaning
pub exactly_det : (t : Text) → IsDeterministic (exactly t)
exactly_det t p q p' q' v v' e h h' = (h ∙ sym h', refl)

pub rest_det : IsDeterministic rest
rest_det p q p' q' v v' e h h' =
    let s = rw (h.0, h'.0, append-nil p, append-nil p') at e in (s, h.1 ∙ s ∙ sym h'.1)

pub optional_det : (C : Class) → IsDeterministic C → IsDeterministic (optional C)
optional_det C d p q p' q' None None e h h' = (h.0 ∙ sym h'.0, refl)
optional_det C d p q p' q' None (Some y) e h h' = absurd (h.1 p' q' y (after_nil p q (p' ++ q') h.0 e) h')
optional_det C d p q p' q' (Some x) None e h h' = absurd (h'.1 p q x (after_nil p' q' (p ++ q) h'.0 (sym e)) h)
optional_det C d p q p' q' (Some x) (Some y) e h h' = let r = d p q p' q' x y e h h' in (r.0, ap Some r.1)

pub mapped_det : (C : Class) (B : Type 0) (f : C.Value → B) → IsDeterministic C → IsDeterministic (mapped C B f)
mapped_det C B f d p q p' q' b b' e (v, h, i) (v', h', i') =
    let r = d p q p' q' v v' e h h' in (r.0, i ∙ ap f r.1 ∙ sym i')

pub texted_det : (C : Class) → IsDeterministic C → IsDeterministic (texted C)
texted_det C d p q p' q' b b' e (v, h, i) (v', h', i') = let r = d p q p' q' v v' e h h' in (r.0, i ∙ r.0 ∙ sym i')

-- ---- rows

-- what holds of each in a row, without brackets in brackets
infixr 30 ◌also◌
abbrev pub ◌also◌ : {A B : Type 0} → A → B → A × B
◌also◌ a b = (a, b)

abbrev pub AllDeterministic : List Class → Type 0
AllDeterministic [] = Unit {0}
AllDeterministic (C ∷ Cs) = IsDeterministic C × AllDeterministic Cs

pub all_joined : (As Bs : List Class) → AllDeterministic As → AllDeterministic Bs → AllDeterministic (As ++ Bs)
all_joined [] Bs d e = e
all_joined (C ∷ As) Bs d e = (d.0, all_joined As Bs d.1 e)

-- two divisions of one text into a row are the same pieces, with the same meanings
pub divides_same : (Cs : List Class) → AllDeterministic Cs
    → (ps : List Text) (q : Text) (ps' : List Text) (q' : Text) (vs vs' : Values Cs)
    → join ps ++ q ≡ join ps' ++ q' → Divides Cs ps q vs → Divides Cs ps' q' vs' → (ps ≡ ps') × (vs ≡ vs')
divides_same [] d [] q [] q' vs vs' e h h' = (refl, refl)
divides_same [] d [] q (p' ∷ ps') q' vs vs' e h h' = absurd h'
divides_same [] d (p ∷ ps) q ps' q' vs vs' e h h' = absurd h
divides_same (C ∷ Cs) d [] q ps' q' vs vs' e h h' = absurd h
divides_same (C ∷ Cs) d (p ∷ ps) q [] q' vs vs' e h h' = absurd h'
divides_same (C ∷ Cs) d (p ∷ ps) q (p' ∷ ps') q' vs vs' e h h' =
    let whole : p ++ (join ps ++ q) ≡ p' ++ (join ps' ++ q') =
    sym (append_assoc p (join ps) q) ∙ e ∙ append_assoc p' (join ps') q' in
    let first = d.0 p (join ps ++ q) p' (join ps' ++ q') vs.0 vs'.0 whole h.0 h'.0 in
    let others =
    divides_same Cs d.1 ps q ps' q' vs.1 vs'.1
    (rest_same p (join ps ++ q) p' (join ps' ++ q') whole first.0) h.1 h'.1 in
    (let a = first.0 in let b = others.0 in cc, λ i. (first.1 i, others.1 i))

pub row_det : (Cs : List Class) → AllDeterministic Cs → IsDeterministic (Row Cs)
row_det Cs d p q p' q' vs vs' e (ps, w, h) (ps', w', h') =
    let whole : join ps ++ q ≡ join ps' ++ q' = cc in
    let same = divides_same Cs d ps q ps' q' vs vs' whole h h' in
    (w ∙ ap join same.0 ∙ sym w', same.1)

-- ---- fronts
abbrev pub front_of : {C : Class} {t q : Text} {v : C.Value} (p : Text) → t ≡ p ++ q → C.Is p q v → Front C t q v
front_of p e h = record { piece = p; whole = e; is = h }

-- two fronts of one text are one
pub front_same : (C : Class) → IsDeterministic C → {text q q' : Text} {v v' : C.Value} → Front C text q v
    → Front C text q' v' → (q ≡ q') × (v ≡ v')
front_same C d {text = text} {q = q} {q' = q'} {v = v} {v' = v'} f f' =
    let e = sym f.whole ∙ f'.whole in
    let r = d f.piece q f'.piece q' v v' e f.is f'.is in
    (rest_same f.piece q f'.piece q' e r.0, r.1)

pub no_front_no : (C : Class) → {text q : Text} {v : C.Value} → NoFront C text → Front C text q v → ⊥
no_front_no C {q = q} {v = v} n f = n f.piece q v f.whole f.is

pub optional_none : (C : Class) → {text : Text} → NoFront C text → Front (optional C) text text None
optional_none C n = record { piece = []; whole = refl; is = (refl, n) }

pub optional_some : (C : Class) → {text q : Text} {v : C.Value} → Front C text q v → Front (optional C) text q (Some v)
optional_some C f = record { piece = f.piece; whole = f.whole; is = f.is }

pub rest_front : (text : Text) → Front rest text [] text
rest_front text = record { piece = text; whole = sym (append-nil text); is = (refl, refl) }

-- all that is left is the meaning
pub rest_whole : {t q v : Text} → Front rest t q v → t ≡ v
rest_whole f = f.whole ∙ ap (λ (x : Text). f.piece ++ x) f.is.0 ∙ append-nil f.piece ∙ sym f.is.1

pub mapped_front : (C : Class) (B : Type 0) (f : C.Value → B) {t q : Text} {v : C.Value} → Front C t q v
    → Front (mapped C B f) t q (f v)
mapped_front C B f {v = v} g = record { piece = g.piece; whole = g.whole; is = (v, g.is, refl) }

pub no_mapped : (C : Class) (B : Type 0) (f : C.Value → B) {t : Text} → NoFront C t → NoFront (mapped C B f) t
no_mapped C B f n p q b e (v, h, i) = n p q v e h

pub texted_front : (C : Class) {t q : Text} {v : C.Value} → (g : Front C t q v) → Front (texted C) t q g.piece
texted_front C {v = v} g = record { piece = g.piece; whole = g.whole; is = (v, g.is, refl) }

pub no_texted : (C : Class) {t : Text} → NoFront C t → NoFront (texted C) t
no_texted C n p q b e (v, h, i) = n p q v e h

-- ---- a row, piece by piece
pub row_nil : (text : Text) → Front (Row []) text text tt
row_nil text = record { piece = []; whole = refl; is = ([], refl, tt) }

pub row_cons : (C : Class) (Cs : List Class) → {text q r : Text} {v : C.Value} {vs : Values Cs} → Front C text q v
    → Front (Row Cs) q r vs → Front (Row (C ∷ Cs)) text r (v, vs)
row_cons C Cs {text = text} {q = q} {r = r} {v = v} {vs = vs} f g =
    let ps = g.is.0 in
    let e : q ≡ join ps ++ r = g.whole ∙ ap (λ (x : Text). x ++ r) g.is.1 in
    front_of (f.piece ++ join ps)
    (f.whole ∙ ap (λ (x : Text). f.piece ++ x) e ∙ sym (append_assoc f.piece (join ps) r))
    (f.piece ∷ ps, refl, (subst (λ (x : Text). C.Is f.piece x v) e f.is, g.is.2))

front_parts : (C : Class) (Cs : List Class) (text r : Text) (vs : Values (C ∷ Cs)) (piece : Text) (ps : List Text)
    → text ≡ piece ++ r → piece ≡ join ps → Divides (C ∷ Cs) ps r vs
    → (q : Text) × Front C text q vs.0 × Front (Row Cs) q r vs.1
front_parts C Cs text r vs piece [] w e h = absurd h
front_parts C Cs text r vs piece (p ∷ ps) w e h =
    let whole = w ∙ ap (λ (x : Text). x ++ r) e ∙ append_assoc p (join ps) r in
    (join ps ++ r, front_of p whole h.0, front_of (join ps) refl (ps, refl, h.1))

-- the first piece of a row, and the others
pub row_head : (C : Class) (Cs : List Class) → {text r : Text} {vs : Values (C ∷ Cs)} → Front (Row (C ∷ Cs)) text r vs
    → (q : Text) × Front C text q vs.0 × Front (Row Cs) q r vs.1
row_head C Cs {text = text} {r = r} {vs = vs} f = front_parts C Cs text r vs f.piece f.is.0 f.whole f.is.1 f.is.2

pub row_none_here : (C : Class) (Cs : List Class) → {text : Text} → NoFront C text → NoFront (Row (C ∷ Cs)) text
row_none_here C Cs n p q vs w h =
    let r = row_head C Cs (record { piece = p; whole = w; is = h }) in no_front_no C n r.1

-- after a known front of the first class, the row goes on with its other classes
pub step : (C : Class) (Cs : List Class) → IsDeterministic C → {t q r : Text} {v : C.Value} {vs : Values (C ∷ Cs)}
    → Front C t q v → Front (Row (C ∷ Cs)) t r vs → Front (Row Cs) q r vs.1
step C Cs d {r = r} {vs = vs} g f =
    let h = row_head C Cs f in
    let e = (front_same C d h.1 g).0 in subst (λ (x : Text). Front (Row Cs) x r vs.1) e h.2

pub row_none_later : (C : Class) (Cs : List Class) → IsDeterministic C → {text q : Text} {v : C.Value}
    → Front C text q v → NoFront (Row Cs) q → NoFront (Row (C ∷ Cs)) text
row_none_later C Cs d f n p r vs w h =
    no_front_no (Row Cs) n (step C Cs d f (record { piece = p; whole = w; is = h }))

-- ---- divisions of a whole text
pub division_front : (Cs : List Class) → {text : Text} {vs : Values Cs} → Division Cs text vs
    → Front (Row Cs) text [] vs
division_front Cs d =
    record { piece = join d.pieces; whole = d.whole ∙ sym (append-nil (join d.pieces)); is = (d.pieces, refl, d.each) }

pub front_division : (Cs : List Class) → {text : Text} {vs : Values Cs} → Front (Row Cs) text [] vs
    → Division Cs text vs
front_division Cs f = record { pieces = f.is.0; whole = f.whole ∙ append-nil f.piece ∙ f.is.1; each = f.is.2 }

pub no_row_division : (Cs : List Class) → {text : Text} → NoFront (Row Cs) text → NoDivision Cs text
no_row_division Cs n vs d = no_front_no (Row Cs) n (division_front Cs d)

-- two divisions of one text are the same list of pieces, with the same meanings
pub unique_division : (Cs : List Class) → AllDeterministic Cs → {text : Text} {vs vs' : Values Cs}
    → (d : Division Cs text vs) (d' : Division Cs text vs') → (d.pieces ≡ d'.pieces) × (vs ≡ vs')
unique_division Cs a {vs = vs} {vs' = vs'} d d' =
    divides_same Cs a d.pieces [] d'.pieces [] vs vs'
    (append-nil (join d.pieces) ∙ sym d.whole ∙ d'.whole ∙ sym (append-nil (join d'.pieces))) d.each d'.each

-- ---- a row that goes on with another row

-- the meanings of both
abbrev pub both_values : (As Bs : List Class) → Values As → Values Bs → Values (As ++ Bs)
both_values [] Bs vs ws = ws
both_values (C ∷ As) Bs vs ws = (vs.0, both_values As Bs vs.1 ws)

pub nil_front : {t u : Text} → Front (Row []) t u tt → t ≡ u
nil_front f = (front_same (Row []) (row_det [] tt) (row_nil _) f).0

pub rows_join : (As Bs : List Class) → {t u r : Text} {vs : Values As} {ws : Values Bs} → Front (Row As) t u vs
    → Front (Row Bs) u r ws → Front (Row (As ++ Bs)) t r (both_values As Bs vs ws)
rows_join [] Bs {r = r} {ws = ws} f g = subst (λ (x : Text). Front (Row Bs) x r ws) (sym (nil_front f)) g
rows_join (C ∷ As) Bs f g = let h = row_head C As f in row_cons C (As ++ Bs) h.1 (rows_join As Bs h.2 g)

-- the two rows of a front
abbrev pub firsts : (As Bs : List Class) → Values (As ++ Bs) → Values As
firsts [] Bs vs = tt
firsts (C ∷ As) Bs vs = (vs.0, firsts As Bs vs.1)

abbrev pub lasts : (As Bs : List Class) → Values (As ++ Bs) → Values Bs
lasts [] Bs vs = vs
lasts (C ∷ As) Bs vs = lasts As Bs vs.1

pub rows_split : (As Bs : List Class) {t r : Text} {vs : Values (As ++ Bs)} → Front (Row (As ++ Bs)) t r vs
    → (u : Text) × Front (Row As) t u (firsts As Bs vs) × Front (Row Bs) u r (lasts As Bs vs)
rows_split [] Bs {t = t} f = (t, row_nil t, f)
rows_split (C ∷ As) Bs f =
    let h = row_head C (As ++ Bs) f in
    let (u, a, b) = rows_split As Bs h.2 in
    (u, row_cons C As h.1 a, b)

pub rows_none_here : (As Bs : List Class) → {t : Text} → NoFront (Row As) t → NoFront (Row (As ++ Bs)) t
rows_none_here As Bs n p q vs e h =
    let (u, f, g) = rows_split As Bs (record { piece = p; whole = e; is = h }) in no_front_no (Row As) n f

-- after several known fronts, the row goes on with its other classes
pub rows_step : (As Bs : List Class) → AllDeterministic As → {t q r : Text} {us : Values As} {vs : Values (As ++ Bs)} →
    Front (Row As) t q us → Front (Row (As ++ Bs)) t r vs → (firsts As Bs vs ≡ us) × Front (Row Bs) q r (lasts As Bs vs)
rows_step As Bs d {r = r} {vs = vs} g f =
    let (u, a, b) = rows_split As Bs f in
    let (e, same) = front_same (Row As) (row_det As d) a g in
    (same, subst (λ (x : Text). Front (Row Bs) x r (lasts As Bs vs)) e b)

pub rows_none_later : (As Bs : List Class) → AllDeterministic As → {t u : Text} {vs : Values As} → Front (Row As) t u vs
    → NoFront (Row Bs) u → NoFront (Row (As ++ Bs)) t
rows_none_later As Bs d f n p q vs e h = no_front_no (Row Bs) n (rows_step As Bs d f (front_of p e h)).1

-- ---- pieces after a character
pub after_det : {c : ℕ} (C : Class) → IsDeterministic C → IsDeterministic (after c C)
after_det {c} C d p q p' q' v v' e (t, f, h) (t', f', h') =
    let same : t ++ q ≡ t' ++ q' = (let f1 = ap (λ (x : Text). x ++ q) f in let f2 = ap (λ (x : Text). x ++ q') f' in
    cc) in
    let r = d t q t' q' v v' same h h' in
    (f ∙ ap (λ (x : Text). c ∷ x) r.0 ∙ sym f', r.1)

-- such a piece, from the character and the piece after it
pub spaced_front : (C : Class) {c : ℕ} {t q r : Text} {v : C.Value} → Front (exactly (c ∷ [])) t q tt → Front C q r v
    → Front (after c C) t r v
spaced_front C {c} f g =
    front_of (c ∷ g.piece) (f.whole ∙ (rw (f.is) (ap (λ (x : Text). c ∷ x) g.whole))) (g.piece, refl, g.is)

-- and back
pub spaced_parts : (C : Class) {c : ℕ} {t r : Text} {v : C.Value} → Front (after c C) t r v
    → (q : Text) × (t ≡ c ∷ q) × Front C q r v
spaced_parts C {c} {r = r} f =
    let (p, e, h) = f.is in
    (p ++ r, f.whole ∙ ap (λ (x : Text). x ++ r) e, record { piece = p; whole = refl; is = h })

pub no_spaced_space : (C : Class) {c : ℕ} {t : Text} → NoFront (exactly (c ∷ [])) t → NoFront (after c C) t
no_spaced_space C {c} n p q v e (t, f, h) = n (c ∷ []) (t ++ q) tt (e ∙ ap (λ (x : Text). x ++ q) f) refl

pub no_spaced_piece : (C : Class) {c : ℕ} {t q : Text} → Front (exactly (c ∷ [])) t q tt → NoFront C q
    → NoFront (after c C) t
no_spaced_piece C {c} {q = q} g n p r v e (t, f, h) =
    n t r v (cc) h

-- ---- what holds of each character of a text
pub each_map : (f g : ℕ → Bool) → ((c : ℕ) → f c ≡ true → g c ≡ true) → (t : Text) → Each f t → Each g t
each_map f g k [] h = tt
each_map f g k (c ∷ t) h = (k c h.0, each_map f g k t h.1)

pub each_append : (f : ℕ → Bool) (p q : Text) → Each f p → Each f q → Each f (p ++ q)
each_append f [] q h k = k
each_append f (c ∷ p) q h k = (h.0, each_append f p q h.1 k)

pub each_front : (f : ℕ → Bool) (p q : Text) → Each f (p ++ q) → Each f p
each_front f [] q h = tt
each_front f (c ∷ p) q h = (h.0, each_front f p q h.1)

pub each_after : (f : ℕ → Bool) (p q : Text) → Each f (p ++ q) → Each f q
each_after f [] q h = h
each_after f (c ∷ p) q h = each_after f p q h.1

pub each_both : (f g : ℕ → Bool) (t : Text) → Each f t → Each g t → Each (λ c. f c && g c) t
each_both f g [] h k = tt
each_both f g (c ∷ t) h k = (and_from (f c) (g c) h.0 k.0, each_both f g t h.1 k.1)

pub each_left : (f g : ℕ → Bool) (t : Text) → Each (λ c. f c && g c) t → Each f t
each_left f g = each_map (λ c. f c && g c) f (λ c h. (and_parts (f c) (g c) h).0)

pub each_right : (f g : ℕ → Bool) (t : Text) → Each (λ c. f c && g c) t → Each g t
each_right f g = each_map (λ c. f c && g c) g (λ c h. (and_parts (f c) (g c) h).1)

-- ---- elements of a list
pub all_map : {A : Type 0} {P Q : A → Type 0} → ((t : A) → P t → Q t) → (ts : List A) → AllByRecursion P ts
    → AllByRecursion Q ts
all_map f [] h = tt
all_map f (t ∷ ts) h = (f t h.0, all_map f ts h.1)

pub all_append : {A : Type 0} (P : A → Type 0) (ts us : List A) → AllByRecursion P ts → AllByRecursion P us
    → AllByRecursion P (ts ++ us)
all_append P [] us h k = k
all_append P (t ∷ ts) us h k = (h.0, all_append P ts us h.1 k)

pub all_left : {A : Type 0} (P : A → Type 0) (ts us : List A) → AllByRecursion P (ts ++ us) → AllByRecursion P ts
all_left P [] us h = tt
all_left P (t ∷ ts) us h = (h.0, all_left P ts us h.1)

pub all_right : {A : Type 0} (P : A → Type 0) (ts us : List A) → AllByRecursion P (ts ++ us) → AllByRecursion P us
all_right P [] us h = h
all_right P (t ∷ ts) us h = all_right P ts us h.1

-- ---- several tests in turn
pub no_truth : IsTrue false → ⊥
no_truth h = let e : false ≡ true = h in cc

-- a test that fails
pub false_is : {P : Type 0} → (P → ⊥) → IsTrue false ↔ P
false_is n = ((λ h. absurd (no_truth h)), (λ p. absurd (n p)))

-- the last test, where those before it have passed
pub last_is : {P Q : Type 0} (b : Bool) → P → IsTrue b ↔ Q → IsTrue b ↔ (P × Q)
last_is b p e = ((λ h. (p, e.0 h)), (λ h. e.1 h.1))

-- ---- one class at one text has the same fronts as another class further on

-- the fronts of C at t end where those of D at u end
pub record Meets (C : Class) (t : Text) (D : Class) (u : Text) : Type 0 where
  pub forth : (q : Text) (v : D.Value) → Front D u q v → (w : C.Value) × Front C t q w
  pub back : (q : Text) (w : C.Value) → Front C t q w → (v : D.Value) × Front D u q v

pub meets_here : (C : Class) (t : Text) → Meets C t C t
meets_here C t = record { forth = λ q v f. (v, f); back = λ q v f. (v, f) }

pub meets_on : {C D E : Class} {t u s : Text} → Meets C t D u → Meets D u E s → Meets C t E s
meets_on m n = record {
  forth = λ q v f. (let g = n.forth q v f in m.forth q g.0 g.1);
  back = λ q w f. (let g = m.back q w f in n.back q g.0 g.1);
}

pub meets_none : (C : Class) (t : Text) (D : Class) (u : Text) → Meets C t D u → NoFront D u → NoFront C t
meets_none C t D u m n p q v e h = let g = m.back q v (record { piece = p; whole = e; is = h }) in no_front_no D n g.1

pub meets_none_on : (C : Class) (t : Text) (D : Class) (u : Text) → Meets C t D u → NoFront C t → NoFront D u
meets_none_on C t D u m n p q v e h =
    let g = m.forth q v (record { piece = p; whole = e; is = h }) in no_front_no C n g.1

pub mapped_meets : (C : Class) (B : Type 0) (f : C.Value → B) (t : Text) → Meets (mapped C B f) t C t
mapped_meets C B f t =
    record { forth = λ q v g. (f v, mapped_front C B f g); back = λ q w g. (g.is.0, front_of g.piece g.whole g.is.1) }

-- after the first piece of a row
pub row_goes : (C : Class) (Cs : List Class) → IsDeterministic C → {t u : Text} {v : C.Value} → Front C t u v
    → Meets (Row (C ∷ Cs)) t (Row Cs) u
row_goes C Cs d {v = v} f = record {
  forth = λ q vs g. ((v, vs), row_cons C Cs f g);
  back = λ q vs g. (vs.1, step C Cs d f g);
}

-- another first piece of a row
pub row_first : (C D : Class) (Cs : List Class) {t u : Text} → Meets C t D u → Meets (Row (C ∷ Cs)) t (Row (D ∷ Cs)) u
row_first C D Cs m = record {
  forth = λ q vs g. (let r = row_head D Cs g in let s = m.forth r.0 vs.0 r.1 in ((s.0, vs.1), row_cons C Cs s.1 r.2));
  back = λ q vs g. (let r = row_head C Cs g in let s = m.back r.0 vs.0 r.1 in ((s.0, vs.1), row_cons D Cs s.1 r.2));
}

-- after the first pieces of a row
pub rows_go : (As Bs : List Class) → AllDeterministic As → (t u : Text) (vs : Values As) → Front (Row As) t u vs
    → Meets (Row (As ++ Bs)) t (Row Bs) u
rows_go As Bs d t u vs f = record {
  forth = λ q ws g. (both_values As Bs vs ws, rows_join As Bs f g);
  back = λ q ws g. (lasts As Bs ws, (rows_step As Bs d f g).1);
}

-- ---- a result with another meaning
pub match_map : {X : Type 0} (r : Option X) {N M : Type 0} {S T : X → Type 0} → (N → M) → ((x : X) → S x → T x)
    → MatchOption r N S → MatchOption r M T
match_map None f g h = f h
match_map (Some x) f g h = g x h

-- ---- all pieces of a row, each with what follows it

-- the pieces of a row, each with what follows it
abbrev pub Pieces : (Cs : List Class) → Text → Text → Values Cs → Type 0
Pieces [] t q vs = t ≡ q
Pieces (C ∷ Cs) t q vs = (u : Text) × Front C t u vs.0 × Pieces Cs u q vs.1

pub row_pieces : (Cs : List Class) → {t q : Text} {vs : Values Cs} → Front (Row Cs) t q vs → Pieces Cs t q vs
row_pieces [] f = nil_front f
row_pieces (C ∷ Cs) f = let r = row_head C Cs f in (r.0, r.1, row_pieces Cs r.2)

pub row_of : (Cs : List Class) → {t q : Text} {vs : Values Cs} → Pieces Cs t q vs → Front (Row Cs) t q vs
row_of [] {t = t} e = subst (λ (x : Text). Front (Row []) t x tt) e (row_nil t)
row_of (C ∷ Cs) (u, f, p) = row_cons C Cs f (row_of Cs p)

-- a piece, and then those after it
infixr 20 ◌then◌
abbrev pub ◌then◌ : {C : Class} {t u : Text} {v : C.Value} {P : Text → Type 0} → Front C t u v → P u
    → (q : Text) × Front C t q v × P q
◌then◌ {u = u} f p = (u, f, p)

-- ---- the first that is not there

abbrev pub Fails : List Class → Text → Type 0
Fails [] t = ⊥
Fails (C ∷ Cs) t = NoFront C t ⊎ ((u : Text) × (v : C.Value) × Front C t u v × Fails Cs u)

pub no_row : (Cs : List Class) → AllDeterministic Cs → {t : Text} → Fails Cs t → NoFront (Row Cs) t
no_row [] d h = absurd h
no_row (C ∷ Cs) d (inl n) = row_none_here C Cs n
no_row (C ∷ Cs) d (inr (u, v, f, h)) = row_none_later C Cs d.0 f (no_row Cs d.1 h)

-- a piece, after which one is missing
infixr 20 ◌past◌
abbrev pub ◌past◌ : {C : Class} {t u : Text} {v : C.Value} {P : Text → Type 0} → Front C t u v → P u
    → NoFront C t ⊎ ((q : Text) × (w : C.Value) × Front C t q w × P q)
◌past◌ {u = u} {v = v} f p = inr (u, v, f, p)

-- ---- a front at a known place

-- a text that is a piece and what follows it
pub piece_front : (C : Class) (p q : Text) (v : C.Value) → C.Is p q v → Front C (p ++ q) q v
piece_front C p q v h = record { piece = p; whole = refl; is = h }

-- and the first meaning is that of the known front
pub step_value : (C : Class) (Cs : List Class) → IsDeterministic C → {t q r : Text} {v : C.Value} {vs : Values (C ∷ Cs)}
    → Front C t q v → Front (Row (C ∷ Cs)) t r vs → vs.0 ≡ v
step_value C Cs d g f = let h = row_head C Cs f in (front_same C d h.1 g).1

-- what follows a front is no longer than the text
pub front_longer : (C : Class) {t q : Text} {v : C.Value} → Front C t q v → length q ≤ length t
front_longer C {q = q} f = omega (arith, ap length f.whole, length-append f.piece q)

-- where the optional piece is absent, the text stays, and no front of it is of the class
pub absent_stays : (C : Class) {t q : Text} → Front (optional C) t q None → t ≡ q
absent_stays C {q = q} f = f.whole ∙ ap (λ (x : Text). x ++ q) f.is.0

pub absent_none : (C : Class) {t q : Text} → Front (optional C) t q None → NoFront C t
absent_none C f = subst (λ (x : Text). NoFront C x) (sym (absent_stays C f)) f.is.1

pub present_front : (C : Class) {t q : Text} {v : C.Value} → Front (optional C) t q (Some v) → Front C t q v
present_front C f = record { piece = f.piece; whole = f.whole; is = f.is }

-- ---- pieces that are of their class whatever follows them, and pieces that are where the same character follows

-- whatever follows
abbrev pub IsAlone : Class → Type 0
IsAlone C = (p q r : Text) (v : C.Value) → C.Is p q v → C.Is p r v

-- whatever follows a character that follows
abbrev pub IsSteady : Class → Type 0
IsSteady C = (p : Text) (c : ℕ) (q r : Text) (v : C.Value) → C.Is p (c ∷ q) v → C.Is p (c ∷ r) v

pub texted_steady : (C : Class) → IsSteady C → IsSteady (texted C)
texted_steady C s p c q r t (v, h, e) = (v, s p c q r v h, e)

pub mapped_alone : (C : Class) (B : Type 0) (f : C.Value → B) → IsAlone C → IsAlone (mapped C B f)
mapped_alone C B f s p q r b (v, h, e) = (v, s p q r v h, e)

-- ---- a row whose last piece is not empty, and of its class whatever follows
abbrev pub AllSteady : List Class → Type 0
AllSteady [] = Unit {0}
AllSteady (C ∷ Cs) = IsSteady C × AllSteady Cs

-- no piece is empty
abbrev pub IsFilled : Class → Type 0
IsFilled C = (p q : Text) (v : C.Value) → C.Is p q v → (d : ℕ) × (t : Text) × (p ≡ d ∷ t)

module _ (L : Class) (alone : IsAlone L) (filled : IsFilled L) where
  -- such a row begins with a character, and is a row whatever follows it
  row_begins : (Cs : List Class) (ps : List Text) (q : Text) (vs : Values (Cs ++ (L ∷ [])))
      → Divides (Cs ++ (L ∷ [])) ps q vs → (d : ℕ) × (t : Text) × (join ps ≡ d ∷ t)
  row_begins [] [] q vs h = absurd h
  row_begins [] (p ∷ ps) q vs h =
      let (d, t, e) = filled p (join ps ++ q) vs.0 h.0 in (d, t ++ join ps, ap (λ (x : Text). x ++ join ps) e)
  row_begins (C ∷ Cs) [] q vs h = absurd h
  row_begins (C ∷ Cs) ([] ∷ ps) q vs h = row_begins Cs ps q vs.1 h.1
  row_begins (C ∷ Cs) ((d ∷ p) ∷ ps) q vs h = (d, p ++ join ps, λ i. d ∷ (p ++ join ps))

  divides_alone : (Cs : List Class) → AllSteady Cs → (ps : List Text) (q r : Text) (vs : Values (Cs ++ (L ∷ [])))
      → Divides (Cs ++ (L ∷ [])) ps q vs → Divides (Cs ++ (L ∷ [])) ps r vs
  divides_alone [] s [] q r vs h = h
  divides_alone [] s (p ∷ []) q r vs h = (alone p q r vs.0 h.0, tt)
  divides_alone [] s (p ∷ p' ∷ ps) q r vs h = absurd h.1
  divides_alone (C ∷ Cs) s [] q r vs h = h
  divides_alone (C ∷ Cs) s (p ∷ ps) q r vs h =
      let (d, t, e) = row_begins Cs ps q vs.1 h.1 in
      subst (λ (x : Text). C.Is p (x ++ q) vs.0 → C.Is p (x ++ r) vs.0) (sym e) (s.0 p d (t ++ q) (t ++ r) vs.0) h.0
      also divides_alone Cs s.1 ps q r vs.1 h.1

  pub closed_alone : (Cs : List Class) → AllSteady Cs → IsAlone (Row (Cs ++ (L ∷ [])))
  closed_alone Cs s p q r vs (ps, e, h) = (ps, e, divides_alone Cs s ps q r vs h)

  pub closed_filled : (Cs : List Class) → IsFilled (Row (Cs ++ (L ∷ [])))
  closed_filled Cs p q vs (ps, e, h) = let (d, t, f) = row_begins Cs ps q vs h in (d, t, e ∙ f)

-- a row that one character closes
pub row_alone : (c : ℕ) (Cs : List Class) → AllSteady Cs → IsAlone (Row (Cs ++ (exactly (c ∷ []) ∷ [])))
row_alone c = closed_alone (exactly (c ∷ [])) (λ p q r v h. h) (λ p q v h. (c, [], h))

-- ---- lists
module _ (C : Class) (separator : ℕ) (s : IsAlone C) where
  more_alone : (p q r : Text) (vs : List C.Value) → IsMore C separator p q vs → IsMore C separator p r vs
  more_alone p q r [] h = h
  more_alone p q r (v ∷ vs) (a, b, e, h, more) = (a, b, e, s a (b ++ q) (b ++ r) v h, more_alone b q r vs more)

  list_alone : (p q r : Text) (vs : List C.Value) → IsList C separator p q vs → IsList C separator p r vs
  list_alone p q r [] h = h
  list_alone p q r (v ∷ vs) (a, b, e, h, more) = (a, b, e, s a (b ++ q) (b ++ r) v h, more_alone b q r vs more)

pub closed_steady : (c d : ℕ) (q r : Text) → ((t : Text) × (d ∷ q ≡ c ∷ t)) → (t : Text) × (d ∷ r ≡ c ∷ t)
closed_steady c d q r (t, e) = (r, ap (λ (x : ℕ). x ∷ r) (heads d c q t e))

pub list_before_steady : (C : Class) (separator close : ℕ) → IsAlone C → IsSteady (list_before C separator close)
list_before_steady C separator close s p c q r vs (h, z) =
    (list_alone C separator s p (c ∷ q) (c ∷ r) vs h, closed_steady close c q r z)
