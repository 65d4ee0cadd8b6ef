use Rattle.syslog_object.proofs.Names.{◌≡◌, ◌++◌, map, element_seen, list_elements}
use Rattle.syslog_elements.specs.StructuredData.Visited.{elements_left}
use Rattle.syslog_object.proofs.element.push_elements.Given as goal

abbrev pub invariant-loop-element : goal.invariant-loop-element
invariant-loop-element l =
    map element_seen l.elements.items ++ elements_left l.element-iterator ≡ list_elements l.list
