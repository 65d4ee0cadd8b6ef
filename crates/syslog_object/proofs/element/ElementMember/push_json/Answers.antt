use Rattle.syslog_object.proofs.{Names.param_pair, GatherLemmas.all_seen, GatherLemmas.param_seen}
use Rattle.syslog_object.proofs.{GatherLemmas.seen_text}
use Rattle.syslog_object.proofs.element.ElementMember.push_json.Goals as goal

pub returns : goal.returns
returns c = rw (seen_text param_seen param_pair c.loop-param.params.items c.as_slice.result.now _
    c.as_slice.ensures.value
    (all_seen _ _ _ c.loop-param.invariant c.in-None.ensures.steps.0)) at c.push_members.ensures
