use Rattle.syslog_loose.proofs.Names.{◌≡◌, map, take, string_bytes, shown, text_of, element_value}
use Rattle.syslog_loose.proofs.message.copies.own_elements.Given as goal

abbrev pub invariant-loop-element : goal.invariant-loop-element
invariant-loop-element l =
    map (element_value (text_of string_bytes)) l.copies.items
    ≡ map (element_value (λ s. shown s)) (take l.element-index l.elements)
