use Rattle.syslog_elements.proofs.Names.{map, take, AllByRecursion, text_of, param_value, IsCanonicalParam}
use Rattle.syslog_elements.proofs.structured_data.canonical.are_canonical_params.Given as goal

abbrev pub invariant-loop-param : goal.invariant-loop-param
invariant-loop-param g l =
    AllByRecursion IsCanonicalParam (map (param_value (text_of g.S.AsStr.text)) (take l.param-index l.params))
