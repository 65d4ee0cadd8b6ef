use Rattle.syslog_strict.proofs.Words.{List, length, chars, Text}
use denote.Text.{Utf8}
use denote.Shadow.{shadow}
use Rattle.syslog_text.proofs.PieceLemmas.Rules.{Runs}
use Rattle.syslog_text.specs.Pieces.Class.{spaced}
use Rattle.syslog_strict.specs.Grammar.{sd_param}
use Rattle.syslog_strict.proofs.valid.structured_data.params.Given as goal

abbrev pub invariant-params : goal.invariant-params
invariant-params l = shadow (Utf8 l.rest) × ((ps : List (Text × Text))
    × Runs (spaced sd_param) (chars l.text) ps (chars l.rest))

abbrev pub decreases-params : goal.decreases-params
decreases-params l = length (chars l.rest)
