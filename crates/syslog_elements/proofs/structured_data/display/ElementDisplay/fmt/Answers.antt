use Rattle.syslog_elements.proofs.Names.{refl, ◌∙◌, ap, sym, [], ◌∷◌, ◌++◌, append_assoc, flat_map, param_text}
use Rattle.syslog_elements.proofs.Names.{encode_utf8_all, param_value, shown, put_two, YieldsList-end}
use Rattle.syslog_elements.proofs.Names.{YieldsList-from_first, element_seen, params_left}
use Rattle.syslog_elements.proofs.StructuredDataLemmas.Units.{encodes_closed, encodes_opening, encodes_param}
use Rattle.syslog_text.proofs.TextLemmas.Words.{encodes_more, encodes_shown}
use Rattle.syslog_elements.proofs.structured_data.display.ElementDisplay.fmt.Goals as goal

pub loop-name-preserved : goal.loop-name-preserved
loop-name-preserved g c = λ canonical.
    let so_far = c.loop-name.invariant canonical in
    let name = encodes_shown _ c.in-Some.name.now c.as_str-name.utf8 c.as_str-name.ensures in
    let value = encodes_shown _ c.in-Some.value.now c.as_str-value.utf8 c.as_str-value.ensures in
    put_two _ _ _ _ _ _ _ so_far (c.in_ok-write_param.ensures so_far.plain refl)
    (encodes_more param_text (param_value (λ s. shown s)) (91 ∷ (element_seen c.args.self.now).id) c.loop-name.yielded
    (c.in-Some.name, c.in-Some.value) _ (encodes_param _ _ _ _ name value))

pub returns-clause-writes : goal.returns-clause-writes
returns-clause-writes g c = λ canonical ok.
    let e = element_seen c.args.self.now in
    let there = ap params_left c.into_iter-name-iterator.ensures.into_iter_gives ∙ c.params-name-items.ensures in
    let all = (YieldsList-end (YieldsList-from_first (param_value (λ s. shown s)) params_left e.params there)
    c.loop-name.yielded c.loop-name.name-iterator c.loop-name.yielded_by c.next.result c.next.new.self
    c.in-None.is c.next.ensures.steps).0 in
    let so_far = rw all at c.loop-name.invariant canonical in
    put_two _ _ _ _ _ _ _ so_far (c.write_str-3.ensures.writes so_far.plain ok)
    (encodes_closed ((91 ∷ e.id) ++ flat_map param_text e.params) _
    (sym (append_assoc (91 ∷ e.id) (flat_map param_text e.params) (93 ∷ []))))
