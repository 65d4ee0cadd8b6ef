use Rattle.syslog_strict.proofs.Words.{List, length, chars}
use denote.Text.{Utf8}
use denote.Shadow.{shadow}
use Rattle.syslog_text.proofs.PieceLemmas.Rules.{Runs}
use Rattle.syslog_elements.specs.StructuredData.Escapes.{TextUnit}
use Rattle.syslog_strict.specs.Grammar.{value_unit}
use Rattle.syslog_strict.proofs.valid.structured_data.param_value.Given as goal

abbrev pub invariant-units : goal.invariant-units
invariant-units l = shadow (Utf8 l.rest) × ((units : List TextUnit)
    × Runs value_unit (chars l.text) units (chars l.rest))

abbrev pub decreases-units : goal.decreases-units
decreases-units l = length (chars l.rest)
