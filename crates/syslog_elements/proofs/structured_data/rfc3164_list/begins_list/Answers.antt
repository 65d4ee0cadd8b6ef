use Rattle.syslog_elements.proofs.StructuredDataLemmas.Walk.{begins_no_list, no_rfc3164_list}
use Rattle.syslog_elements.proofs.structured_data.rfc3164_list.begins_list.Goals as goal

pub returns-in-Some : goal.returns-in-Some
returns-in-Some c = λ n. (begins_no_list c.args.rule _ n).0 _ c.in-Some.ensures.0 c.in-Some.ensures.1

pub returns-in-Some-walk_full_element : goal.returns-in-Some-walk_full_element
returns-in-Some-walk_full_element c = λ n.
    let (walked, some) = c.in-Some-walk_full_element.ensures.walked in
    (begins_no_list c.args.rule _ n).1 walked.front.piece _ _ walked.front.whole (walked.front.is, some)

pub returns-in-None : goal.returns-in-None
returns-in-None c = no_rfc3164_list c.args.rule _ (c.in_default.ensures, c.in-None.ensures.walked)
