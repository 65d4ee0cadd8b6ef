use Rattle.syslog_named_forms.proofs.Names.{◌≡◌, chars, length, opens_address, shadow, Utf8}
use Rattle.std.proofs.Common.{◌≤◌}
use Rattle.syslog_named_forms.specs.Devices.{goes_on}
use Rattle.syslog_named_forms.proofs.devices.opens_address.Given as goal

abbrev pub invariant-characters : goal.invariant-characters
invariant-characters l = shadow (Utf8 l.rest) × (l.seen ≤ 12)
    × (opens_address (chars l.text) ≡ goes_on l.seen (chars l.rest))

abbrev pub decreases-characters : goal.decreases-characters
decreases-characters l = length (chars l.rest)
