use Rattle.syslog_strict.proofs.Words.{List, length, ◌<◌, chars, ElementValue, AreDistinct, HasSeen}
use denote.Text.{Utf8}
use denote.Shadow.{shadow}
use Rattle.syslog_text.proofs.PieceLemmas.Rules.{Runs}
use Rattle.syslog_strict.specs.Grammar.{ids_of, sd_element}
use Rattle.syslog_strict.proofs.valid.structured_data.sd_elements.Given as goal

abbrev pub invariant-elements : goal.invariant-elements
invariant-elements l = shadow (Utf8 l.rest) × ((es : List ElementValue) × (0 < length es)
    × Runs sd_element (chars l.text) es (chars l.rest) × HasSeen l.ids (ids_of es) × AreDistinct (ids_of es))

abbrev pub decreases-elements : goal.decreases-elements
decreases-elements l = length (chars l.rest)
