use Rattle.syslog_elements.proofs.Names.{Visits, element_seen, map}
use Rattle.syslog_elements.proofs.structured_data.visit.visit_list.Given as goal

abbrev pub invariant-loop-element : goal.invariant-loop-element
invariant-loop-element g l =
    Visits g.V.ElementVisitor.was_given l.fn.visitor (map element_seen l.yielded) l.visitor
