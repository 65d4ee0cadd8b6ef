use Rattle.syslog_elements.proofs.Names.{◌≡◌, map, take, text_of, param_value}
use Rattle.syslog_elements.proofs.structured_data.StructuredElement.try_clone.Given as goal

abbrev pub invariant-loop-name : goal.invariant-loop-name
invariant-loop-name g l =
    map (param_value (text_of g.S.AsStr.text)) l.params.items
    ≡ map (param_value (text_of g.S.AsStr.text)) (take l.name-index l.name-items)
