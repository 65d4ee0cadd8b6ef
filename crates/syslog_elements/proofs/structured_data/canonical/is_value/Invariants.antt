use Rattle.syslog_elements.proofs.Names.{length, shadow, Utf8, chars}
use Rattle.syslog_elements.proofs.StructuredDataLemmas.Closing.{ExtendsValue}
use Rattle.syslog_elements.proofs.structured_data.canonical.is_value.Given as goal

abbrev pub invariant-units : goal.invariant-units
invariant-units l = shadow (Utf8 l.rest) × ExtendsValue (chars l.text) (chars l.rest)

abbrev pub decreases-units : goal.decreases-units
decreases-units l = length (chars l.rest)
