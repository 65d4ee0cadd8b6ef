use Rattle.syslog_loose.proofs.Names.{◌≡◌, map, take, text_of, element_value}
use Rattle.syslog_loose.proofs.message.copies.clone_elements.Given as goal

abbrev pub invariant-loop-element : goal.invariant-loop-element
invariant-loop-element g l =
    map (element_value (text_of g.S.AsStr.text)) l.copies.items
    ≡ map (element_value (text_of g.S.AsStr.text)) (take l.element-index l.elements)
