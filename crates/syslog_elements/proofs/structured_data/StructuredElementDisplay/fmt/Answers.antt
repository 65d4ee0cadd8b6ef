use Rattle.syslog_elements.proofs.Names.{refl, ◌∙◌, ap, sym, [], ◌∷◌, ◌++◌, append_assoc, take_all, flat_map, Text}
use Rattle.syslog_elements.proofs.Names.{param_text, param_value, text_of, put_two}
use Rattle.syslog_text.proofs.TextLemmas.Words.{encodes_shown, encodes_step, flat_map-map}
use Rattle.syslog_elements.proofs.StructuredDataLemmas.Units.{encodes_param, encodes_opening, encodes_closed}
use Rattle.syslog_elements.proofs.structured_data.StructuredElementDisplay.fmt.Goals as goal

pub loop-name-preserved : goal.loop-name-preserved
loop-name-preserved g c = λ canonical.
    let so_far = c.loop-name.invariant canonical in
    let item = c.loop-name-item.result in
    let name = encodes_shown _ (g.S.AsStr.text item.0) c.as_str-name.utf8 c.as_str-name.ensures in
    let value = encodes_shown _ (g.S.AsStr.text item.1) c.as_str-value.utf8 c.as_str-value.ensures in
    put_two _ _ _ _ _ _ _ so_far (c.in_ok-write_param.ensures so_far.plain refl)
    (encodes_step (λ p. param_text (param_value (text_of g.S.AsStr.text) p)) (91 ∷ text_of g.S.AsStr.text _) _ _ item _
    c.loop-name-test.true c.loop-name-item.is (encodes_param _ _ _ _ name value))

pub returns-clause-writes : goal.returns-clause-writes
returns-clause-writes g c = λ canonical ok.
    let items = c.args.self.now.params.items in
    let text = text_of g.S.AsStr.text in
    let all = take_all _ _ c.loop-name-test.false in
    let so_far = rw (all, c.deref-name-items.ensures.value) at c.loop-name.invariant canonical in
    put_two _ _ _ _ _ _ _ so_far (c.write_str-3.ensures.writes so_far.plain ok)
    (encodes_closed ((91 ∷ text _) ++ flat_map (λ p. param_text (param_value text p)) items) _
    (ap (λ (x : Text). 91 ∷ (text c.args.self.now.id ++ (x ++ (93 ∷ []))))
    (flat_map-map param_text (param_value text) items)
    ∙ sym (append_assoc (91 ∷ text _) (flat_map (λ p. param_text (param_value text p)) items) (93 ∷ []))))
