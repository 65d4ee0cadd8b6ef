use Rattle.syslog_object.proofs.Names.{◌≡◌, ◌++◌, map, element_seen, params_left}
use Rattle.syslog_object.proofs.GatherLemmas.{param_seen}
use Rattle.syslog_object.proofs.element.ElementMember.push_json.Given as goal

abbrev pub invariant-loop-param : goal.invariant-loop-param
invariant-loop-param l =
    map param_seen l.params.items ++ params_left l.param-iterator ≡ (element_seen l.self).params
