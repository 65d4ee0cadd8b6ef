use Rattle.syslog_elements.proofs.Names.{map, take, AllByRecursion, text_of, element_value, IsCanonicalElement}
use Rattle.syslog_elements.proofs.structured_data.canonical.are_canonical_elements.Given as goal

abbrev pub invariant-loop-element : goal.invariant-loop-element
invariant-loop-element g l =
    AllByRecursion IsCanonicalElement (map (element_value (text_of g.S.AsStr.text)) (take l.element-index l.elements))
