use Rattle.syslog_c.proofs.Words.{◌∙◌, ◌∷◌, [], ap, sym, append-nil, append_assoc, Text, shown, param_value}
use Rattle.syslog_c.proofs.Words.{element_seen, params_left}
use Rattle.std.specs.List.{flat_map}
use Rattle.syslog_elements.specs.StructuredData.Element.{param_text}
use Rattle.syslog_pieces.proofs.Names.{YieldsList-end, YieldsList-from_first}
use Rattle.syslog_c.proofs.TextLemmas.{chars_of_literals, more_text, text_after, text_along}
use Rattle.syslog_c.proofs.put_line.put_element.Goals as goal

pub loop-name-init : goal.loop-name-init
unfolding chars_of_literals
loop-name-init c =
    let id = (element_seen c.args.element.now).id in
    text_along _ _ _ _ (ap (λ (x : Text). 91 ∷ x) c.id.ensures ∙ sym (append-nil (91 ∷ id)))
    (text_after _ _ _ (91 ∷ []) _ c.put.ensures c.put-2.ensures)

pub loop-name-preserved : goal.loop-name-preserved
loop-name-preserved c =
    text_along _ _ _ _ (more_text param_text (param_value (λ s. shown s)) (91 ∷ (element_seen c.args.element.now).id)
    c.loop-name.yielded (c.in-Some.name, c.in-Some.value))
    (text_after _ _ _ _ _ c.loop-name.invariant c.put_param.ensures)

pub returns : goal.returns
unfolding chars_of_literals
returns c =
    let e = element_seen c.args.element.now in
    let there = ap params_left c.into_iter-name-iterator.ensures.into_iter_gives ∙ c.params-name-items.ensures in
    let all = (YieldsList-end (YieldsList-from_first (param_value (λ s. shown s)) params_left e.params there)
    c.loop-name.yielded c.loop-name.name-iterator c.loop-name.yielded_by c.next.result c.next.new.self
    c.in-None.is c.next.ensures.steps).0 in
    text_along _ _ _ _ (append_assoc (91 ∷ e.id) (flat_map param_text e.params) (93 ∷ []))
    (text_after _ _ _ _ (93 ∷ []) (rw all at c.loop-name.invariant) c.put-3.ensures)
