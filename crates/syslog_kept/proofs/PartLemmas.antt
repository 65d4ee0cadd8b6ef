-- Parts of texts: of a row of pieces, of elements, and between white space.
use Rattle.std.proofs.Common.{◌≡◌, ◌∙◌, inl, inr, List, [], ◌∷◌, ◌++◌}
use Rattle.std.proofs.Common.{refl, sym, ap, subst, append_assoc, append-nil, length, ◌&&◌, ◌==◌}
use Rattle.std.proofs.lemmas.Bool.{and_parts, cases_Bool, eqb-true}
use Rattle.std.proofs.lemmas.List.{nil_from_length}
use Rattle.std.specs.Char.{is_whitespace}
use Rattle.std.specs.Str.{drop_trailing_whitespace, skip_leading_whitespace}
use Rattle.syslog_text.specs.Pieces.Class.{Class, Divides, Front, Text, Values, join}
use Rattle.syslog_text.specs.Pieces.Lists.{IsList, IsMany}
use Rattle.syslog_elements.specs.StructuredData.{element_row, param_row}
use Rattle.syslog_elements.specs.StructuredData as data_of
use Rattle.syslog_elements.specs.StructuredData.Element.{ElementValue}
use Rattle.syslog_elements.specs.StructuredData.Rfc3164List.{full_element}
use Rattle.syslog_text.specs.Text.{trimmed}
use Rattle.syslog_text.proofs.PieceLemmas.Class.{◌also◌}
use Rattle.syslog_kept.specs.Part.{AreParts, Part, blanks, this, white_space}
use Rattle.syslog_kept.specs.Elements.{element, elements, param, params}

-- ---- a row of pieces, each of which is a part

-- each piece of a class with its value is the part
abbrev pub Fits : (Cs : List Class) → List Part → Values Cs → Type 0
Fits [] [] vs = Unit {0}
Fits [] (P ∷ Ps) vs = ⊥
Fits (C ∷ Cs) [] vs = ⊥
Fits (C ∷ Cs) (P ∷ Ps) vs = ((p q : Text) → C.Is p q vs.0 → P p) × Fits Cs Ps vs.1

pub row_parts : (Cs : List Class) (Ps : List Part) (ps : List Text) (q : Text) (vs : Values Cs) → Fits Cs Ps vs
    → Divides Cs ps q vs → AreParts Ps (join ps)
row_parts [] [] [] q vs fits each = refl
row_parts [] [] (p ∷ ps) q vs fits each = absurd each
row_parts [] (P ∷ Ps) ps q vs fits each = absurd fits
row_parts (C ∷ Cs) [] ps q vs fits each = absurd fits
row_parts (C ∷ Cs) (P ∷ Ps) [] q vs fits each = absurd each
row_parts (C ∷ Cs) (P ∷ Ps) (p ∷ ps) q vs fits each =
    (p, join ps, refl, fits.0 p (join ps ++ q) each.0, row_parts Cs Ps ps q vs.1 fits.1 each.1)

-- a part that begins a text, and what follows it
pub record Begins (P : Part) (t u : Text) : Type 0 where
  pub first : Text
  pub whole : t ≡ first ++ u
  pub is : P first

pub begins : {P : Part} {C : Class} {t u : Text} {v : C.Value} (f : Front C t u v) → P f.piece → Begins P t u
begins f is = record { first = f.piece; whole = f.whole; is = is }

infixr 20 ◌before◌
pub ◌before◌ : {P Q : Part} {t u : Text} → Begins P t u → Q u → (p : Text) × (q : Text) × (t ≡ p ++ q) × P p × Q q
◌before◌ {u = u} f others = (f.first, u, f.whole, f.is, others)

-- ---- two parts

pub two_parts : (P Q : Part) (p q : Text) → P p → Q q → AreParts (P ∷ Q ∷ []) (p ++ q)
two_parts P Q p q here there = (p, q, refl, here, (q, [], sym (append-nil q), there, refl))

-- ---- white space at the ends

-- other text after the last part
pub and_after : (Ps : List Part) (t w : Text) → AreParts Ps t → white_space w
    → AreParts (Ps ++ white_space ∷ []) (t ++ w)
and_after [] t w e is = (w, [], ap (λ (x : Text). x ++ w) e ∙ sym (append-nil w), is, refl)
and_after (P ∷ Ps) t w (p, q, e, here, others) is =
    (p, q ++ w, ap (λ (x : Text). x ++ w) e ∙ append_assoc p q w, here, and_after Ps q w others is)

leading : (t : Text) → (w : Text) × white_space w × (t ≡ w ++ skip_leading_whitespace t)
leading [] = ([], tt, refl)
leading (c ∷ t) = elim (cases_Bool (is_whitespace c)) [
  | inl white ↦ let (w, is, e) = leading t in
      (c ∷ w, (white, is), rw white (ap (λ (x : Text). c ∷ x) e))
  | inr other ↦ ([], tt, rw other refl)
]

trailing : (t : Text) → (w : Text) × white_space w × (t ≡ drop_trailing_whitespace t ++ w)
trailing [] = ([], tt, refl)
trailing (c ∷ t) =
    let (w, is, e) = trailing t in
    elim (cases_Bool (is_whitespace c && length (drop_trailing_whitespace t) == 0)) [
      | inl all ↦ let (white, none) = and_parts (is_whitespace c) (length (drop_trailing_whitespace t) == 0) all in
          let rest_is : t ≡ w = e ∙ ap (λ (x : Text). x ++ w) (nil_from_length (drop_trailing_whitespace t)
          (eqb-true (length (drop_trailing_whitespace t)) 0 none)) in
          (c ∷ w, (white, is), rw all (ap (λ (x : Text). c ∷ x) rest_is))
      | inr some ↦ (w, is, rw some (ap (λ (x : Text). c ∷ x) e))
    ]

-- the parts of the trimmed text, with white space on both sides
pub around : (Ps : List Part) (text : Text) → AreParts Ps (trimmed text)
    → AreParts (white_space ∷ (Ps ++ white_space ∷ [])) text
around Ps text inner =
    let (w, front, e) = leading text in
    let (z, back, f) = trailing (skip_leading_whitespace text) in (
      w,
      skip_leading_whitespace text,
      e,
      front,
      subst (AreParts (Ps ++ white_space ∷ [])) (sym f) (and_after Ps (trimmed text) z inner back),
    )

-- ---- elements

param_part : (p q : Text) (pair : Text × Text) → data_of.param.Is p q pair → param pair p
param_part p q pair ((name, (e1, (b, (q1, (v, (q2, end)))))), (ps, whole, each), means) =
    subst (λ (x : Text × Text). param x p) (sym means)
    (subst (param (name, v)) (sym whole)
    (row_parts param_row
    (this name ∷ this (61 ∷ []) ∷ blanks ∷ this (34 ∷ []) ∷ this v ∷ this (34 ∷ []) ∷ []) ps q
    (name, (e1, (b, (q1, (v, (q2, end))))))
    ((λ a r h. sym h.2) also (λ a r h. h) also (λ a r h. h.0) also (λ a r h. h) also (λ a r h. sym h.2)
    also (λ a r h. h)
    also tt) each))

list_part : (p q : Text) (ps : List (Text × Text)) → IsList data_of.param 32 p q ps → params ps p
list_part p q [] h = h
list_part p q (x ∷ []) (a, b, e, is, none) =
    subst (param x) (sym (e ∙ ap (λ (y : Text). a ++ y) none ∙ append-nil a)) (param_part a (b ++ q) x is)
list_part p q (x ∷ y ∷ ps) (a, b, e, is, (c, d, f, next, more)) =
    let others = list_part (c ++ d) q (y ∷ ps) (c, d, refl, next, more) in
    let last : AreParts (params (y ∷ ps) ∷ []) (c ++ d) = (c ++ d, [], sym (append-nil (c ++ d)), others, refl) in
    (a, b, e, param_part a (b ++ q) x is, (32 ∷ [], c ++ d, f, refl, last))

element_part : (p q : Text) (e : ElementValue) → data_of.element.Is p q e → element e p
element_part p q e ((o, (id, (b, (ps, (c, end))))), (pieces, whole, each), means) =
    subst (λ (x : ElementValue). element x p) (sym means)
    (subst (element (record { id = id; params = ps })) (sym whole)
    (row_parts element_row (this (91 ∷ []) ∷ this id ∷ blanks ∷ params ps ∷ this (93 ∷ []) ∷ []) pieces q
    (o, (id, (b, (ps, (c, end)))))
    ((λ a r h. h) also (λ a r h. sym h.2) also (λ a r h. h.0) also (λ a r h. list_part a r ps h.0) also (λ a r h. h)
    also tt) each))

pub many_parts : (p q : Text) (es : List ElementValue) → IsMany data_of.element p q es → elements es p
many_parts p q [] h = h.0
many_parts p q (e ∷ es) (a, b, whole, is, more) =
    subst (elements (e ∷ es)) (sym whole) (two_parts (element e) (elements es) a b (element_part a (b ++ q) e is)
    (many_parts b q es more))

pub full_parts : (p q : Text) (es : List ElementValue) → IsMany full_element p q es → elements es p
full_parts p q [] h = h.0
full_parts p q (e ∷ es) (a, b, whole, is, more) =
    subst (elements (e ∷ es)) (sym whole) (two_parts (element e) (elements es) a b (element_part a (b ++ q) e is.0)
    (full_parts b q es more))
