use Rattle.syslog_elements.proofs.Names.{length, shadow, Utf8, chars, IsDead, item, strict}
use Rattle.syslog_elements.proofs.StructuredDataLemmas.Tallies.{Gone}
use Rattle.syslog_elements.proofs.structured_data.line_list.visit_items.Given as goal

abbrev pub invariant-items : goal.invariant-items
invariant-items g l = shadow (Utf8 l.rest) × IsDead (chars l.rest) l.dead × Gone item strict
    g.V.ElementVisitor.was_given (chars l.text) (chars l.rest) l.fn.visitor l.visitor l.tally

abbrev pub decreases-items : goal.decreases-items
decreases-items g l = length (chars l.rest)
