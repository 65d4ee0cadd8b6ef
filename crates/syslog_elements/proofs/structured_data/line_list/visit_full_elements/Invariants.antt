use Rattle.syslog_elements.proofs.Names.{◌≡◌, None, length, shadow, Utf8, chars, full_element}
use Rattle.syslog_elements.proofs.StructuredDataLemmas.Tallies.{Gone}
use Rattle.syslog_elements.proofs.structured_data.line_list.visit_full_elements.Given as goal

abbrev pub invariant-elements : goal.invariant-elements
invariant-elements g l = shadow (Utf8 l.rest) × Gone full_element (λ es. es) g.V.ElementVisitor.was_given
    (chars l.text) (chars l.rest) l.fn.visitor l.visitor l.tally × (l.tally.broken ≡ None)

abbrev pub decreases-elements : goal.decreases-elements
decreases-elements g l = length (chars l.rest)
