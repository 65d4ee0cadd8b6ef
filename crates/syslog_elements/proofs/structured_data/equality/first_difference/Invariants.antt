use Rattle.syslog_elements.proofs.Names.{◌≡◌, map, take, text_of, param_value}
use Rattle.syslog_elements.proofs.structured_data.equality.first_difference.Given as goal

abbrev pub invariant-loop-at : goal.invariant-loop-at
invariant-loop-at g l = map (param_value (text_of g.S.AsStr.text)) (take l.at l.a)
    ≡ map (param_value (text_of g.S.AsStr.text)) (take l.at l.b)
