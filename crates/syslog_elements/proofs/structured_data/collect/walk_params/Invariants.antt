use Rattle.syslog_elements.proofs.Names.{◌≡◌, ◌++◌, map, param_value, shown, element_seen, params_left}
use Rattle.syslog_elements.proofs.structured_data.collect.walk_params.Given as goal

abbrev pub invariant-loop-param : goal.invariant-loop-param
invariant-loop-param l =
    map (param_value (λ s. shown s)) l.params.items ++ params_left l.param-iterator ≡ (element_seen l.fn.element).params
