use Rattle.syslog_elements.proofs.Names.{[], None, Some, many_here, full_element, optional_some, rfc3164_list}
use Rattle.syslog_elements.proofs.StructuredDataLemmas.Walk.{optional_full, no_full_unopened, list_absent}
use Rattle.syslog_elements.proofs.StructuredDataLemmas.Walk.{dash_rfc3164_list}
use Rattle.syslog_elements.proofs.structured_data.line_list.visit_rfc3164_list.Goals as goal

pub returns-in-Some-clause-list : goal.returns-in-Some-clause-list
returns-in-Some-clause-list g c =
    let dash = dash_rfc3164_list c.args.rule _ _ c.in-Some.ensures.0 c.in-Some.ensures.1 in
    (Some [], optional_some (rfc3164_list c.args.rule) dash, c.dash_list.ensures.elements)

pub returns-in_default-literal-clause-list : goal.returns-in_default-literal-clause-list
returns-in_default-literal-clause-list g c =
    let none = many_here full_element _ (no_full_unopened _ c.in_default-literal.ensures) in
    (None, list_absent c.args.rule _ _ c.in_default.ensures none, c.none.ensures.elements)

pub returns-clause-list : goal.returns-clause-list
returns-clause-list g c = optional_full c.args.rule _ c.in_default.ensures c.visit_full_elements.ensures.list
