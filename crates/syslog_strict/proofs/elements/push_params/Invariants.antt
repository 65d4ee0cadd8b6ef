use Rattle.syslog_strict.proofs.Words.{◌≡◌, ◌++◌, map, flat_map, param_text, element_seen, converted_param, text_in}
use Rattle.syslog_elements.specs.StructuredData.Visited.{params_left}
use Rattle.syslog_strict.proofs.elements.push_params.Given as goal

abbrev pub invariant-loop-name : goal.invariant-loop-name
invariant-loop-name l =
    text_in l.out ++ flat_map param_text (map converted_param (params_left l.name-iterator))
    ≡ text_in l.fn.out ++ flat_map param_text (map converted_param (element_seen l.element).params)
