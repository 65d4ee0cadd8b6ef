use Rattle.syslog_named_forms.proofs.Names.{◌≡◌, chars, length, shadow, Utf8}
use Rattle.syslog_named_forms.specs.Programs.{is_serial}
use Rattle.syslog_named_forms.proofs.programs.is_serial.Given as goal

abbrev pub invariant-characters : goal.invariant-characters
invariant-characters l = shadow (Utf8 l.rest) × (is_serial (chars l.text) ≡ is_serial (chars l.rest))

abbrev pub decreases-characters : goal.decreases-characters
decreases-characters l = length (chars l.rest)
