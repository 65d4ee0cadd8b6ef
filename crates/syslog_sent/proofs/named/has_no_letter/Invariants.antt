use denote.Text.{Utf8}
use denote.Shadow.{shadow}
use Rattle.std.proofs.Common.{◌≡◌, length}
use Rattle.std.specs.Str.{chars}
use Rattle.syslog_sent.specs.Named.{has_no_letter}
use Rattle.syslog_sent.proofs.named.has_no_letter.Given as goal

abbrev pub invariant-characters : goal.invariant-characters
invariant-characters l = shadow (Utf8 l.rest) × (has_no_letter (chars l.text) ≡ has_no_letter (chars l.rest))

abbrev pub decreases-characters : goal.decreases-characters
decreases-characters l = length (chars l.rest)
