use Rattle.syslog_strict.proofs.Words.{◌≡◌, ◌++◌, length, chars, is_inert_char, text_in, Ends}
use denote.Text.{Utf8}
use denote.Shadow.{shadow}
use Rattle.syslog_strict.specs.Conversion.{converted_value}
use Rattle.syslog_strict.proofs.elements.push_value.Given as goal

abbrev pub invariant-stretches : goal.invariant-stretches
invariant-stretches l = shadow (Utf8 l.rest) × Ends is_inert_char (chars l.rest)
    × (text_in l.out ++ converted_value (chars l.rest) ≡ text_in l.fn.out ++ converted_value (chars l.value))

abbrev pub decreases-stretches : goal.decreases-stretches
decreases-stretches l = length (chars l.rest)
