use Rattle.syslog_dated_forms.proofs.Names.{◌≡◌, chars, length, may_begin, shadow, Utf8}
use Rattle.syslog_dated_forms.proofs.address.may_begin.Given as goal

abbrev pub invariant-characters : goal.invariant-characters
invariant-characters l = shadow (Utf8 l.rest) × (may_begin (chars l.text) ≡ may_begin (chars l.rest))

abbrev pub decreases-characters : goal.decreases-characters
decreases-characters l = length (chars l.rest)
