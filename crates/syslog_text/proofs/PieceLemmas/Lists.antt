-- Classes of two kinds, lists of pieces, the texts that a meaning holds, and rows of formats.
use Rattle.std.proofs.Common.{◌≡◌, inl, inr, ℕ, ◌<◌, Bool, true, [], ◌∷◌, ◌++◌, length, sym, subst, arith, ◌≢◌, zero}
use Rattle.std.proofs.Common.{suc, ◌≤◌, List, refl, ap, ◌∙◌, append_assoc, append-nil, Option, Some, None}
use Rattle.std.specs.List.{AllByRecursion}
use Rattle.syslog_text.specs.Pieces.Class.{Text, Front, NoFront, IsDeterministic, Each, either, Class, Row, exactly}
use Rattle.syslog_text.specs.Pieces.Class.{Values, join, Divides, rest, optional, spaced, texted}
use Rattle.syslog_text.specs.Pieces.Lists.{IsMany, many, HasRead, IsList, IsMore, list_before, more_before}
use Rattle.syslog_text.specs.Pieces.Parts.{IsPart, IsInPieces, AreInPieces}
use Rattle.syslog_text.specs.Pieces.Format.{Format, IsSound, classes, printed_row, RowReadsBack}
use Rattle.syslog_text.proofs.PieceLemmas.Class.{no_front_no, piece_front, all_append, rest_same, after_nil, front_of}
use Rattle.syslog_text.proofs.PieceLemmas.Class.{row_cons, row_head, all_map, row_nil, append_more, heads, Meets}

-- ---- what a text begins with, and classes whose pieces are of one of two kinds

-- the text is not empty, and this holds of its first character
abbrev pub Begins : (ℕ → Type 0) → Text → Type 0
Begins H [] = ⊥
Begins H (c ∷ cs) = H c

pub begins_apart : {H K : ℕ → Type 0} (t : Text) → ((c : ℕ) → H c → K c → ⊥) → Begins H t → Begins K t → ⊥
begins_apart [] n h k = h
begins_apart (c ∷ cs) n h k = n c h k

pub begins_more : (H : ℕ → Type 0) (p q : Text) → Begins H p → Begins H (p ++ q)
begins_more H [] q h = absurd h
begins_more H (c ∷ cs) q h = h

pub begins_with : (H : ℕ → Type 0) (c : ℕ) (t r : Text) → t ≡ c ∷ r → H c → Begins H t
begins_with H c t r e h = subst (λ (x : Text). Begins H x) (sym e) h

pub each_begins : (test : ℕ → Bool) (p : Text) → 0 < length p → Each test p → Begins (λ c. test c ≡ true) p
each_begins test [] l e = absurd (omega arith)
each_begins test (c ∷ p) l e = e.0

-- ---- one of two kinds

-- no text has a front of the one kind and a front of the other
abbrev pub Apart : (B : Type 0) → (P Q : Text → Text → B → Type 0) → Type 0
Apart B P Q = (p q p' q' : Text) (v v' : B) → p ++ q ≡ p' ++ q' → P p q v → Q p' q' v' → ⊥

pub either_det : (B : Type 0) (P Q : Text → Text → B → Type 0) → IsDeterministic (record { Value = B; Is = P })
    → IsDeterministic (record { Value = B; Is = Q }) → Apart B P Q → IsDeterministic (either B P Q)
either_det B P Q d d' n p q p' q' v v' e (inl h) (inl h') = d p q p' q' v v' e h h'
either_det B P Q d d' n p q p' q' v v' e (inl h) (inr h') = absurd (n p q p' q' v v' e h h')
either_det B P Q d d' n p q p' q' v v' e (inr h) (inl h') = absurd (n p' q' p q v' v (sym e) h' h)
either_det B P Q d d' n p q p' q' v v' e (inr h) (inr h') = d' p q p' q' v v' e h h'

module _ (B : Type 0) (P Q : Text → Text → B → Type 0) {t : Text} where
  pub first_kind : {q : Text} {v : B} → Front (record { Value = B; Is = P }) t q v → Front (either B P Q) t q v
  first_kind f = record { piece = f.piece; whole = f.whole; is = inl f.is }

  pub second_kind : {q : Text} {v : B} → Front (record { Value = B; Is = Q }) t q v → Front (either B P Q) t q v
  second_kind f = record { piece = f.piece; whole = f.whole; is = inr f.is }

  pub no_either : NoFront (record { Value = B; Is = P }) t → NoFront (record { Value = B; Is = Q }) t
      → NoFront (either B P Q) t
  no_either n m p q v e (inl h) = n p q v e h
  no_either n m p q v e (inr h) = m p q v e h

-- ---- lists of pieces of one class
heads_differ : (c d : ℕ) (xs ys : Text) → c ≢ d → c ∷ xs ≡ d ∷ ys → ⊥
heads_differ c d xs ys n e = n (heads c d xs ys e)

-- the text after one character
pub begins : (c : ℕ) (t q : Text) → Front (exactly (c ∷ [])) t q tt → t ≡ c ∷ q
begins c t q f = f.whole ∙ ap (λ (x : Text). x ++ q) f.is

-- ---- as many pieces as there are
pub many_det : (C : Class) → IsDeterministic C → IsDeterministic (many C)
many_det C d p q p' q' [] [] e h h' = (h.0 ∙ sym h'.0, refl)
many_det C d p q p' q' [] (w ∷ ws) e h (a, b, i, k, more) =
    absurd (h.1 a (b ++ q') w (after_nil p q (p' ++ q') h.0 e ∙ append_more p' a b q' i) k)
many_det C d p q p' q' (v ∷ vs) [] e (a, b, i, k, more) h' =
    absurd (h'.1 a (b ++ q) v (after_nil p' q' (p ++ q) h'.0 (sym e) ∙ append_more p a b q i) k)
many_det C d p q p' q' (v ∷ vs) (w ∷ ws) e (a, b, i, k, more) (a', b', i', k', more') =
    let e1 : a ++ (b ++ q) ≡ a' ++ (b' ++ q') = sym (append_more p a b q i) ∙ e ∙ append_more p' a' b' q' i' in
    let r = d a (b ++ q) a' (b' ++ q') v w e1 k k' in
    let s = many_det C d b q b' q' vs ws (rest_same a (b ++ q) a' (b' ++ q') e1 r.0) more more' in
    (let t0 = r.0 in let t1 = s.0 in cc, let t0 = r.1 in let t1 = s.1 in cc)

pub many_here : (C : Class) (t : Text) → NoFront C t → Front (many C) t t []
many_here C t n = record { piece = []; whole = refl; is = (refl, n) }

pub many_cons : (C : Class) {t t' q : Text} {v : C.Value} {vs : List C.Value} → Front C t t' v → Front (many C) t' q vs
    → Front (many C) t q (v ∷ vs)
many_cons C {q = q} {v = v} f g = front_of (f.piece ++ g.piece)
    (f.whole ∙ ap (λ (x : Text). f.piece ++ x) g.whole ∙ sym (append_assoc f.piece g.piece q))
    (f.piece, g.piece, refl, subst (λ (x : Text). C.Is f.piece x v) g.whole f.is, g.is)

-- the first of them, and the others
pub many_parts : (C : Class) {t q : Text} {v : C.Value} {vs : List C.Value} → Front (many C) t q (v ∷ vs)
    → (u : Text) × Front C t u v × Front (many C) u q vs
many_parts C {q = q} f =
    let (a, b, i, k, more) = f.is in (
      b ++ q,
      front_of a (f.whole ∙ append_more f.piece a b q i) k,
      front_of b refl more,
    )

pub has_read_more : (C : Class) (t s s' : Text) (vs : List C.Value) (v : C.Value) → HasRead C t vs s → Front C s s' v
    → HasRead C t (vs ++ (v ∷ [])) s'
has_read_more C t s s' vs v r f q ws g = subst (λ (x : List C.Value). Front (many C) t q x)
    (sym (append_assoc vs (v ∷ []) ws)) (r q (v ∷ ws) (many_cons C f g))

-- it can't be that no row of as many pieces as there are begins a text, where each piece has a character
pub no_many_no : (C : Class) → ((t u : Text) (v : C.Value) → Front C t u v → length u < length t) → (n : ℕ) (t : Text)
    → length t ≤ n → ((q : Text) (vs : List C.Value) → Front (many C) t q vs → ⊥) → ⊥
no_many_no C s zero t l k =
    k t [] (many_here C t (λ p q v e h. let a = s t q v (record { piece = p; whole = e; is = h }) in omega arith))
no_many_no C s (suc n) t l k = k t [] (many_here C t (λ p q v e h.
    let f : Front C t q v = record { piece = p; whole = e; is = h } in
    no_many_no C s n q (omega (arith, s t q v f)) (λ r vs g. k r (v ∷ vs) (many_cons C f g))))

pub many_none : (C : Class) (t q : Text) → Front (many C) t q [] → NoFront C t
many_none C t q f = subst (λ (x : Text). NoFront C x) (sym (f.whole ∙ ap (λ (x : Text). x ++ q) f.is.0)) f.is.1

-- ---- pieces between separators
module _ (C : Class) (separator close : ℕ) where
  abbrev pub list : Class
  list = list_before C separator close

  abbrev pub more : Class
  more = more_before C separator close

  pub list_cons : {t t' q : Text} {v : C.Value} {vs : List C.Value} → Front C t t' v → Front more t' q vs
      → Front list t q (v ∷ vs)
  list_cons {q = q} {v = v} f g = front_of (f.piece ++ g.piece)
      (f.whole ∙ ap (λ (x : Text). f.piece ++ x) g.whole ∙ sym (append_assoc f.piece g.piece q))
      ((f.piece, g.piece, refl, subst (λ (x : Text). C.Is f.piece x v) g.whole f.is, g.is.0), g.is.1)

  pub more_cons : {t u t' q : Text} {v : C.Value} {vs : List C.Value} → t ≡ separator ∷ u → Front C u t' v
      → Front more t' q vs → Front more t q (v ∷ vs)
  more_cons {q = q} {v = v} e f g = front_of (separator ∷ (f.piece ++ g.piece))
      (e ∙ ap (λ (x : Text). separator ∷ x) (f.whole ∙ ap (λ (x : Text). f.piece ++ x) g.whole
      ∙ sym (append_assoc f.piece g.piece q)))
      ((f.piece, g.piece, refl, subst (λ (x : Text). C.Is f.piece x v) g.whole f.is, g.is.0), g.is.1)

  pub list_here : (t r : Text) → t ≡ close ∷ r → Front list t t []
  list_here t r e = record { piece = []; whole = refl; is = (refl, (r, e)) }

  pub more_here : (t r : Text) → t ≡ close ∷ r → Front more t t []
  more_here t r e = record { piece = []; whole = refl; is = (refl, (r, e)) }

  -- the first piece of a list, and the further ones
  pub list_parts : {t q : Text} {v : C.Value} {vs : List C.Value} → Front list t q (v ∷ vs)
      → (u : Text) × Front C t u v × Front more u q vs
  list_parts {q = q} f =
      let (a, b, i, k, others) = f.is.0 in
      (b ++ q, front_of a (f.whole ∙ append_more f.piece a b q i) k, front_of b refl (others, f.is.1))

  -- the piece after a separator
  pub more_parts : {t u q : Text} {v : C.Value} {vs : List C.Value} → t ≡ separator ∷ u → Front more t q (v ∷ vs)
      → (r : Text) × Front C u r v × Front more r q vs
  more_parts {u = u} {q = q} e f =
      let (a, b, i, k, others) = f.is.0 in
      let w : u ≡ a ++ (b ++ q) = cc (e, f.whole, append_more f.piece (separator ∷ a) b q i) in
      (b ++ q, front_of a w k, front_of b refl (others, f.is.1))

  -- a list without pieces is closed at once
  not_empty : {t : Text} (p q : Text) → NoFront (exactly (close ∷ [])) t → t ≡ p ++ q → list.Is p q [] → ⊥
  not_empty p q n e h = n (close ∷ []) h.1.0 tt (e ∙ ap (λ (x : Text). x ++ q) h.0 ∙ h.1.1) refl

  abbrev Parts : Text → Text → Type 0
  Parts t q = (v : C.Value) × (vs : List C.Value) × ((u : Text) × Front C t u v × Front more u q vs)

  pub some_parts : {t q : Text} (vs : List C.Value) → NoFront (exactly (close ∷ [])) t → Front list t q vs → Parts t q
  some_parts {q = q} [] n f = absurd (not_empty f.piece q n f.whole f.is)
  some_parts (v ∷ vs) n f = (v, vs, list_parts f)

  further_parts : {t u q : Text} (vs : List C.Value) → NoFront (exactly (close ∷ [])) t → t ≡ separator ∷ u
      → Front more t q vs → Parts u q
  further_parts {q = q} [] n e f = absurd (not_empty f.piece q n f.whole f.is)
  further_parts (v ∷ vs) n e f = (v, vs, more_parts e f)

  pub no_list : (t : Text) → NoFront (exactly (close ∷ [])) t → NoFront C t → NoFront list t
  no_list t m n p q vs e h =
      no_front_no C n (some_parts vs m (record { piece = p; whole = e; is = h })).2.1

  pub no_more : (t : Text) → NoFront (exactly (close ∷ [])) t → NoFront (exactly (separator ∷ [])) t → NoFront more t
  no_more t m n p q [] e h = not_empty p q m e h
  no_more t m n p q (v ∷ vs) e ((a, b, i, k, others), z) =
      n (separator ∷ []) (a ++ b ++ q) tt (e ∙ ap (λ (x : Text). x ++ q) i) refl

  pub no_more_after : (t u : Text) → NoFront (exactly (close ∷ [])) t → t ≡ separator ∷ u → NoFront C u
      → NoFront more t
  no_more_after t u m f n p q vs e h =
      no_front_no C n (further_parts vs m f (record { piece = p; whole = e; is = h })).2.1

  -- the first parameter of a list that isn't closed at once
  pub list_goes : (Cs : List Class) (t : Text) → NoFront (exactly (close ∷ [])) t
      → Meets (Row (list ∷ Cs)) t (Row (C ∷ more ∷ Cs)) t
  list_goes Cs t n = record {
    forth = λ q vs g. (
        let r = row_head C (more ∷ Cs) g in
        let s = row_head more Cs r.2 in
        ((vs.0 ∷ vs.1.0, vs.1.1), row_cons list Cs (list_cons r.1 s.1) s.2));
    back = λ q vs g. (
        let r = row_head list Cs g in
        let (v, ws, s) = some_parts vs.0 n r.1 in
        ((v, (ws, vs.1)), row_cons C (more ∷ Cs) s.1 (row_cons more Cs s.2 r.2)));
  }

  module _ (differ : separator ≢ close) where
    not_closed : (t u : Text) → t ≡ separator ∷ u → NoFront (exactly (close ∷ [])) t
    not_closed t u e p q v f h = heads_differ separator close u q differ (sym e ∙ f ∙ ap (λ (x : Text). x ++ q) h)

    -- a further piece after the separator
    pub more_goes : (Cs : List Class) (t u : Text) → t ≡ separator ∷ u
        → Meets (Row (more ∷ Cs)) t (Row (C ∷ more ∷ Cs)) u
    more_goes Cs t u e = record {
      forth = λ q vs g. (
          let r = row_head C (more ∷ Cs) g in
          let s = row_head more Cs r.2 in
          ((vs.0 ∷ vs.1.0, vs.1.1), row_cons more Cs (more_cons e r.1 s.1) s.2));
      back = λ q vs g. (
          let r = row_head more Cs g in
          let (v, ws, s) = further_parts vs.0 (not_closed t u e) e r.1 in
          ((v, (ws, vs.1)), row_cons C (more ∷ Cs) s.1 (row_cons more Cs s.2 r.2)));
    }

    module _ (d : IsDeterministic C) where
      -- a further piece, after its separator
      abbrev further : Class
      further = record { Value = C.Value; Is = λ p q v. (a : Text) × (p ≡ separator ∷ a) × C.Is a q v }

      further_det : IsDeterministic further
      further_det p q p' q' v v' e (a, i, h) (a', i', h') =
          let r = d a q a' q' v v' (cc) h h' in (let t = r.0 in cc, r.1)

      -- before the character that closes the list, they are as many as there are
      all_further : (p r : Text) (vs : List C.Value) → IsMore C separator p (close ∷ r) vs
          → IsMany further p (close ∷ r) vs
      all_further p r [] h = (h, λ a b v e k. heads_differ separator close (k.0 ++ b) r differ (sym (rw k.1 at e)))
      all_further p r (v ∷ vs) (a, b, i, k, others) = (separator ∷ a, b, i, (a, refl, k), all_further b r vs others)

      -- where no piece begins with the character that closes the list
      module _ (apart : (p q : Text) (v : C.Value) (r : Text) → C.Is p q v → p ++ q ≡ close ∷ r → ⊥) where
        list_same : (p r p' r' : Text) (vs vs' : List C.Value) → p ++ (close ∷ r) ≡ p' ++ (close ∷ r')
            → IsList C separator p (close ∷ r) vs → IsList C separator p' (close ∷ r') vs' → (p ≡ p') × (vs ≡ vs')
        list_same p r p' r' [] [] e h h' = (h ∙ sym h', refl)
        list_same p r p' r' [] (w ∷ ws) e h (a, b, i, k, others) = absurd (apart a (b ++ (close ∷ r')) w r k (sym
            (append_more p' a b (close ∷ r') i) ∙ sym (after_nil p (close ∷ r) _ h e)))
        list_same p r p' r' (v ∷ vs) [] e (a, b, i, k, others) h' = absurd (apart a (b ++ (close ∷ r)) v r' k (sym
            (append_more p a b (close ∷ r) i) ∙ sym (after_nil p' (close ∷ r') _ h' (sym e))))
        list_same p r p' r' (v ∷ vs) (w ∷ ws) e (a, b, i, k, others) (a', b', i', k', others') =
            let separated = λ (x : Text). separator ∷ x in
            let s = many_det further further_det (separator ∷ p) (close ∷ r) (separator ∷ p') (close ∷ r') (v ∷ vs)
            (w ∷ ws) (ap separated e) (separator ∷ a, b, ap separated i, (a, refl, k), all_further b r vs others)
            (separator ∷ a', b', ap separated i', (a', refl, k'), all_further b' r' ws others') in
            (let t = s.0 in cc, s.1)

        pub list_before_det : IsDeterministic list
        list_before_det p q p' q' vs vs' e (h, (r, z)) (h', (r', z')) =
            list_same p r p' r' vs vs' (rw (z, z') at e) (rw z at h) (rw z' at h')

-- ---- collecting such a list

-- the pieces vs have been read, and at t' a further one is left, and then the ones after it
abbrev pub Leaves : (C : Class) (separator close : ℕ) → Text → List C.Value → Text → Type 0
Leaves C separator close t vs t' =
    (q u : Text) (v : C.Value) (ws : List C.Value) → Front C t' u v → Front (more_before C separator close) u q ws
    → Front (list_before C separator close) t q (vs ++ (v ∷ ws))

-- ---- parts of parts
pub part_same : (p t : Text) → t ≡ p → IsPart p t
part_same p t e = ([], [], sym e ∙ sym (append-nil t))

pub part_left : (p q t : Text) → IsPart p t → IsPart (p ++ q) t
part_left p q t (a, b, e) = (a, b ++ q, rw (e, append_assoc, append_assoc))

pub part_right : (p q t : Text) → IsPart q t → IsPart (p ++ q) t
part_right p q t (a, b, e) = (p ++ a, b, rw (e, append_assoc))

-- what is in the pieces is a part of what they join to
pub part_joined : (ps : List Text) (t : Text) → IsInPieces ps t → IsPart (join ps) t
part_joined [] t h = absurd h
part_joined (p ∷ ps) t (inl h) = part_left p (join ps) t h
part_joined (p ∷ ps) t (inr h) = part_right p (join ps) t (part_joined ps t h)

-- ---- the texts of a meaning

-- the texts that a function finds in a meaning are parts of the piece
abbrev pub Quotes : (C : Class) → (C.Value → List Text) → Type 0
Quotes C f = (p q : Text) (v : C.Value) → C.Is p q v → AllByRecursion (λ t. IsPart p t) (f v)

-- such a function for each class of a row
abbrev pub Quoted : List Class → Type 0
Quoted [] = Unit {0}
Quoted (C ∷ Cs) = ((f : C.Value → List Text) × Quotes C f) × Quoted Cs

-- the texts of a row's meanings, in order
abbrev pub row_texts : (Cs : List Class) → Quoted Cs → Values Cs → List Text
row_texts [] k vs = []
row_texts (C ∷ Cs) k vs = k.0.0 vs.0 ++ row_texts Cs k.1 vs.1

pub row_quotes : (Cs : List Class) (k : Quoted Cs) (ps : List Text) (q : Text) (vs : Values Cs) → Divides Cs ps q vs
    → AreInPieces ps (row_texts Cs k vs)
row_quotes [] k ps q vs h = tt
row_quotes (C ∷ Cs) k [] q vs h = absurd h
row_quotes (C ∷ Cs) ((f, g), k) (p ∷ ps) q vs h =
    all_append (λ t. IsInPieces (p ∷ ps) t) (f vs.0) (row_texts Cs k vs.1) (all_map (λ t x. inl x) (f vs.0) (g p (join
    ps ++ q) vs.0 h.0)) (all_map (λ t x. inr x) (row_texts Cs k vs.1) (row_quotes Cs k ps q vs.1 h.1))

-- a meaning without texts
abbrev pub silent : (C : Class) → (f : C.Value → List Text) × Quotes C f
silent C = ((λ v. []), (λ p q v h. tt))

pub texted_quotes : (C : Class) → Quotes (texted C) (λ t. t ∷ [])
texted_quotes C p q t (v, h, e) = (part_same p t e, tt)

pub rest_quotes : Quotes rest (λ t. t ∷ [])
rest_quotes p q t h = (part_same p t h.1, tt)

-- ---- pieces that may be absent, and pieces after a space

-- the texts of a meaning that may be absent
abbrev pub optional_texts : {V : Type 0} → (V → List Text) → Option V → List Text
optional_texts f None = []
optional_texts f (Some v) = f v

pub optional_quotes : (C : Class) (f : C.Value → List Text) → Quotes C f → Quotes (optional C) (λ v. optional_texts f v)
optional_quotes C f g p q None h = tt
optional_quotes C f g p q (Some v) h = g p q v h

pub spaced_quotes : (C : Class) (f : C.Value → List Text) → Quotes C f → Quotes (spaced C) f
spaced_quotes C f g p q v (t, e, h) = rw e (all_map (λ x k. part_right (32 ∷ []) t x k) (f v) (g t q v h))

-- ---- rows of formats: printed, they are read back
abbrev pub AllSound : List Format → Type 0
AllSound [] = Unit {0}
AllSound (F ∷ Fs) = IsSound F × AllSound Fs

-- a row of sound formats, printed, is read back as its values
pub row_back : (Fs : List Format) → AllSound Fs → (vs : Values (classes Fs)) (q : Text) → RowReadsBack Fs vs q
    → Front (Row (classes Fs)) (printed_row Fs vs q) q vs
row_back [] s vs q h = row_nil q
row_back (F ∷ Fs) s vs q h =
    let more : Text = printed_row Fs vs.1 q in
    row_cons F.reads (classes Fs) (piece_front F.reads (F.print vs.0) more vs.0 (s.0 vs.0 more h.0.0 h.0.1))
    (row_back Fs s.1 vs.1 q h.1)

-- ---- what is printed

-- a row printed before two texts
pub printed_more : (Fs : List Format) (vs : Values (classes Fs)) (p q : Text)
    → printed_row Fs vs p ++ q ≡ printed_row Fs vs (p ++ q)
printed_more [] vs p q = refl
printed_more (F ∷ Fs) vs p q =
    append_assoc (F.print vs.0) (printed_row Fs vs.1 p) q
    ∙ ap (λ (x : Text). F.print vs.0 ++ x) (printed_more Fs vs.1 p q)
