use Rattle.syslog_c.proofs.Words.{map, TakesText, element_seen}
use Rattle.syslog_elements.specs.StructuredData.Element.{joined_elements}
use Rattle.syslog_c.proofs.put_line.put_joined.Given as goal

abbrev pub invariant-loop-element : goal.invariant-loop-element
invariant-loop-element l = TakesText l.fn.buffer (joined_elements (map element_seen l.yielded)) l.buffer
