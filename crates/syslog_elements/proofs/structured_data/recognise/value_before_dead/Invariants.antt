use Rattle.syslog_elements.proofs.Names.{length, shadow, Utf8, chars, quoted, IsDead, Meets}
use Rattle.syslog_elements.proofs.structured_data.recognise.value_before_dead.Given as goal

abbrev pub invariant-units : goal.invariant-units
invariant-units l =
    shadow (Utf8 l.rest) × Meets quoted (chars l.text) quoted (chars l.rest) × IsDead (chars l.rest) l.dead

abbrev pub decreases-units : goal.decreases-units
decreases-units l = length (chars l.rest)
