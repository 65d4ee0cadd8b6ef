use Rattle.syslog_object.proofs.{Names.element_pair, Names.element_seen, GatherLemmas.all_seen, GatherLemmas.seen_text}
use Rattle.syslog_object.proofs.element.push_elements.Goals as goal

pub returns : goal.returns
returns c = rw (seen_text element_seen element_pair c.loop-element.elements.items c.as_slice.result.now _
    c.as_slice.ensures.value (all_seen _ _ _ c.loop-element.invariant c.in-None.ensures.steps.0)) at
    c.push_members.ensures
