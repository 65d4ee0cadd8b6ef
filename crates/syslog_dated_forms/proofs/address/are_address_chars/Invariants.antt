use Rattle.syslog_dated_forms.proofs.Names.{◌≡◌, are_address_chars, chars, length, shadow, Utf8}
use Rattle.syslog_dated_forms.proofs.address.are_address_chars.Given as goal

abbrev pub invariant-characters : goal.invariant-characters
invariant-characters l = shadow (Utf8 l.rest) × (are_address_chars (chars l.text) ≡ are_address_chars (chars l.rest))

abbrev pub decreases-characters : goal.decreases-characters
decreases-characters l = length (chars l.rest)
