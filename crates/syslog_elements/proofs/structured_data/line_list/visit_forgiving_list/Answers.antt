use Rattle.syslog_elements.proofs.Names.{subst, List, ElementValue, Visits, rules, ◌∙◌, ap, strict}
use Rattle.syslog_text.proofs.TextLemmas.Runs.{chars_nonempty}
use Rattle.syslog_elements.proofs.StructuredDataLemmas.Walk.{items_none, some_forgiving}
use Rattle.syslog_elements.proofs.StructuredDataLemmas.Elements.{no_forgiving_list}
use Rattle.syslog_elements.proofs.structured_data.line_list.visit_forgiving_list.Goals as goal

pub returns-then-is_empty-clause-list : goal.returns-then-is_empty-clause-list
returns-then-is_empty-clause-list g c =
    let (vs, f, e) = c.visit_items.ensures.list in
    no_forgiving_list _ _ vs c.in_default.ensures f
    (items_none _ vs f (rw (← c.text.ensures) at c.visit_items.ensures.text) (search rules))

pub returns-else-is_empty-clause-list : goal.returns-else-is_empty-clause-list
returns-else-is_empty-clause-list g c =
    let (vs, f, e) = c.visit_items.ensures.list in
    let n = rw c.text.ensures at (chars_nonempty _ c.text.utf8 (search rules)) in
    rw e (some_forgiving _ vs f c.visit_items.ensures.text n)

pub returns-then-is_empty-clause-visited : goal.returns-then-is_empty-clause-visited
returns-then-is_empty-clause-visited g c =
    let (vs, f, e) = c.visit_items.ensures.list in
    let no_items = items_none _ vs f (rw (← c.text.ensures) at c.visit_items.ensures.text) (search rules) in
    let given = g.V.ElementVisitor.was_given in
    subst (λ (es : List ElementValue). Visits given c.args.visitor.now es c.visit_items.new.visitor)
    (e ∙ ap strict no_items) c.visit_items.ensures.visited
