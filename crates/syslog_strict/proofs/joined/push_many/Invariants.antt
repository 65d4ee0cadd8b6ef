use Rattle.syslog_strict.proofs.Words.{◌≡◌, ◌++◌, List, map, ElementValue, list_elements, converted_element, HasJoined}
use Rattle.syslog_elements.specs.StructuredData.Visited.{elements_left}
use Rattle.syslog_strict.proofs.joined.push_many.Given as goal

abbrev pub invariant-loop-element : goal.invariant-loop-element
invariant-loop-element l = (seen : List ElementValue) × HasJoined l.joined seen
    × (seen ++ map converted_element (elements_left l.element-iterator) ≡ map converted_element (list_elements l.list))
