use Rattle.syslog_elements.proofs.Names.{◌≡◌, map, element_value, shown, element_seen}
use Rattle.syslog_elements.proofs.structured_data.recognised.ElementList.collect.Given as goal

abbrev pub invariant-loop-element : goal.invariant-loop-element
invariant-loop-element l = map (element_value (λ s. shown s)) l.elements.items ≡ map element_seen l.yielded
