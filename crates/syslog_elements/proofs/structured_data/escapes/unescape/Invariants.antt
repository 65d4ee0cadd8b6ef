use Rattle.syslog_elements.proofs.Names.{length, string_bytes, shadow, Utf8, chars}
use Rattle.syslog_elements.specs.StructuredData.Escapes.{MeansFirst}
use Rattle.syslog_elements.proofs.structured_data.escapes.unescape.Given as goal

abbrev pub invariant-texts : goal.invariant-texts
invariant-texts l = shadow (Utf8 l.rest) × MeansFirst (chars l.value) (chars (string_bytes l.out)) (chars l.rest)

abbrev pub decreases-texts : goal.decreases-texts
decreases-texts l = length (chars l.rest)
