use Rattle.syslog_elements.proofs.Names.{arith, refl, sym, ◌≡◌, ◌∙◌, ◌++◌, [], ◌∷◌, append_cancel_right, Text, inl, ap}
use Rattle.syslog_elements.proofs.{Names.chars-nil, StructuredDataLemmas.Elements.dash_items}
use Rattle.syslog_elements.proofs.structured_data.line_list.dash_list.Goals as goal

own_dash : (t own rest : Text) → t ≡ own ++ rest → t ≡ 45 ∷ rest → own ≡ 45 ∷ []
own_dash t own rest e f = append_cancel_right own (45 ∷ []) rest (sym e ∙ f)

pub before-dash-requires : goal.before-dash-requires
before-dash-requires c = (45 ∷ [], c.requires)

pub new-requires : goal.new-requires
new-requires c =
    let e = own_dash _ _ _ c.before-dash.ensures c.requires in (
      _,
      (
        [],
        dash_items _ e,
        refl,
        refl,
        ∣ inl (e, chars-nil) ∣₁,
        (λ flag. e ∙ ap (λ (x : Text). 45 ∷ x) (sym chars-nil)),
        (λ none. absurd (let k = none in omega (arith, k))),
      ),
    )

pub returns-clause-elements : goal.returns-clause-elements
returns-clause-elements c =
    c.new.ensures.elements _ [] (dash_items _ (own_dash _ _ _ c.before-dash.ensures c.requires))

pub returns-clause-text : goal.returns-clause-text
returns-clause-text c = c.new.ensures.text ∙ own_dash _ _ _ c.before-dash.ensures c.requires
