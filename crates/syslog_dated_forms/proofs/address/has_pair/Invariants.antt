use Rattle.syslog_dated_forms.proofs.Names.{◌≡◌, chars, has_pair, length, shadow, Utf8}
use Rattle.syslog_dated_forms.proofs.address.has_pair.Given as goal

abbrev pub invariant-characters : goal.invariant-characters
invariant-characters l = shadow (Utf8 l.rest) × (has_pair (chars l.text) ≡ has_pair (chars l.rest))

abbrev pub decreases-characters : goal.decreases-characters
decreases-characters l = length (chars l.rest)
