use Rattle.syslog_elements.proofs.Names.{◌≡◌, subst, append_cancel_right, ◌∙◌, sym, strict, Text, ap, elements_text}
use Rattle.syslog_elements.{proofs.Names.◌++◌, specs.StructuredData.Unparsed.IsUnparsed}
use Rattle.syslog_elements.proofs.StructuredDataLemmas.Tallies.{own_differs, own_items, own_prints}
use Rattle.syslog_elements.proofs.structured_data.line_list.item_list.Goals as goal

own_left : (piece own u w rest t : Text) → t ≡ piece ++ rest → t ≡ own ++ rest → w ≡ u → IsUnparsed piece u
    → IsUnparsed own w
own_left piece own u w rest t e cut same left = subst (λ (x : Text). IsUnparsed own x) (sym same)
    (subst (λ (x : Text). IsUnparsed x u) (append_cancel_right piece own rest (sym e ∙ cut)) left)

pub new-requires : goal.new-requires
new-requires c =
    let (vs, items, t, left) = c.requires in
    let cut = c.before-own.ensures in
    let is = c.broken_part-unparsed.ensures left.unparsed left.is in (
      _,
      (
        vs,
        own_items cut items,
        t.elements,
        t.params,
        own_left _ _ _ _ _ _ left.whole cut is left.left,
        (λ some. (let (marked, many) = c.counted_if-printed.ensures.printed some in
            own_prints _ left.unparsed vs cut t left.is.1 marked many
            ∙ ap (λ (x : Text). elements_text (strict vs) ++ x) (sym is))),
        (λ none. own_differs cut items t (c.counted_if-printed.ensures.unprinted none)),
      ),
    )

pub returns-clause-elements : goal.returns-clause-elements
returns-clause-elements c vs a = c.new.ensures.elements _ vs (own_items c.before-own.ensures a)
