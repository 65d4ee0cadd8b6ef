-- Check Point's element is found in the object of its line.
use Rattle.std.proofs.Common.{◌≡◌, ◌∙◌, inl, inr, List, [], ◌∷◌, ◌++◌, Some, refl, sym, ap, subst, append-nil}
use Rattle.std.specs.Prelude.{codes}
use Rattle.json.specs.Find.{get}
use Rattle.json.specs.Json.{Json}
use Rattle.syslog_text.specs.Pieces.Class.{Division, Text, Values}
use Rattle.syslog_text.specs.Pieces.Lists.{IsMany}
use Rattle.syslog_text.proofs.PieceLemmas.Class.{◌also◌}
use Rattle.syslog_elements.specs.Bodies.Closing.{quoted, quoted_row}
use Rattle.syslog_elements.specs.StructuredData.Element.{ElementValue}
use Rattle.syslog_elements.specs.StructuredData.Pairs as data_of
use Rattle.syslog_dialects.specs.Paired.{opened_row}
use Rattle.syslog_object.specs.Object.{structured_json, text_json}
use Rattle.syslog_kept.specs.Elements.{HasElements}
use Rattle.syslog_kept.specs.Paired.{pair, pair_end, paired, pairs}
use Rattle.syslog_kept.specs.Part.{AreParts, blanks, text_at, this}
use Rattle.syslog_kept.proofs.ObjectLemmas.{elements_there}
use Rattle.syslog_kept.proofs.PartLemmas.{row_parts}

end_part : (p q : Text) → data_of.EndsPair p q → pair_end p
end_part p q (inl (b, e, each, ends)) = inr (59 ∷ [], b, e, refl, (b, [], sym (append-nil b), each, refl))
end_part p q (inr (e, more)) = inl e

quoted_part : (p q v : Text) → quoted.Is p q (v, (tt, tt)) → AreParts (this v ∷ this (34 ∷ []) ∷ []) p
quoted_part p q v (ps, whole, each) = subst (AreParts (this v ∷ this (34 ∷ []) ∷ [])) (sym whole)
    (row_parts quoted_row (this v ∷ this (34 ∷ []) ∷ []) ps q (v, (tt, tt))
    ((λ a r h. sym h.2) also (λ a r h. h) also tt) each)

pair_part : (p q : Text) (v : Text × Text) → data_of.pair.Is p q v → pair v p
pair_part p q v ((name, (c, (o, ((value, (e, n)), (t, end))))), (ps, whole, each), means) =
    subst (λ (x : Text × Text). pair x p) (sym means) (subst (pair (name, value)) (sym whole)
    (row_parts data_of.pair_row (this name ∷ this (58 ∷ []) ∷ this (34 ∷ [])
    ∷ AreParts (this value ∷ this (34 ∷ []) ∷ []) ∷ pair_end ∷ []) ps q
    (name, (c, (o, ((value, (e, n)), (t, end)))))
    ((λ a r h. sym h.0.2) also (λ a r h. h) also (λ a r h. h) also (λ a r h. quoted_part a r value h)
    also (λ a r h. end_part a r h) also tt) each))

pairs_part : (p q : Text) (vs : List (Text × Text)) → IsMany data_of.pair p q vs → pairs vs p
pairs_part p q [] is = is.0
pairs_part p q (v ∷ vs) (a, b, e, is, more) =
    (a, b, e, pair_part a (b ++ q) v is, (b, [], sym (append-nil b), pairs_part b q vs more, refl))

closed_part : (p q : Text) (vs : Values data_of.pairs_row) → data_of.pairs.Is p q vs
    → AreParts (pairs vs.0 ∷ this (93 ∷ []) ∷ []) p
closed_part p q vs (ps, whole, each) = subst (AreParts (pairs vs.0 ∷ this (93 ∷ []) ∷ [])) (sym whole)
    (row_parts data_of.pairs_row (pairs vs.0 ∷ this (93 ∷ []) ∷ []) ps q vs
    ((λ a r h. pairs_part a r vs.0 h) also (λ a r h. h) also tt) each)

paired_part : (o : Json) (p q : Text) (es : List ElementValue) → get (codes "structured_data") o ≡ structured_json es
    → data_of.paired.Is p q es → paired o p
paired_part o p q es there (vs, (ps, whole, each), some, blank, same) = (
  vs.1.0.0,
  subst (HasElements o) same (elements_there o es there),
  subst (AreParts (this (91 ∷ []) ∷ AreParts (pairs vs.1.0.0 ∷ this (93 ∷ []) ∷ []) ∷ [])) (sym whole)
      (row_parts data_of.open_row (this (91 ∷ []) ∷ AreParts (pairs vs.1.0.0 ∷ this (93 ∷ []) ∷ []) ∷ []) ps q vs
      ((λ a r h. h) also (λ a r h. closed_part a r vs.1.0 h) also tt) each),
)

-- the whole message
pub opened_parts : (o : Json) (whole msg : Text) (es : List ElementValue)
    → get (codes "structured_data") o ≡ structured_json es → get (codes "message") o ≡ Some (text_json msg)
    → Division opened_row whole (es, (tt, (msg, tt)))
    → AreParts (paired o ∷ blanks ∷ text_at o (codes "message") ∷ []) whole
opened_parts o whole msg es elements message d =
    subst (AreParts (paired o ∷ blanks ∷ text_at o (codes "message") ∷ [])) (sym d.whole)
    (row_parts opened_row (paired o ∷ blanks ∷ text_at o (codes "message") ∷ []) d.pieces [] (es, (tt, (msg, tt)))
    ((λ a r h. paired_part o a r es elements h) also (λ a r h. h.0)
    also (λ a r h. message ∙ ap (λ (x : Text). Some (text_json x)) h.1) also tt) d.each)
