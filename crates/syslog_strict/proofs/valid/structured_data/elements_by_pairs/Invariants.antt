use Rattle.syslog_strict.proofs.Words.{◌≡◌, [], List, length, ◌<◌, ◌++◌, chars, Text, ElementValue, Front, AreDistinct}
use Rattle.std.specs.Prelude.{MatchBool}
use denote.Text.{Utf8}
use denote.Shadow.{shadow}
use Rattle.syslog_text.proofs.PieceLemmas.Rules.{Runs}
use Rattle.syslog_text.specs.Pieces.Lists.{many}
use Rattle.syslog_strict.specs.Grammar.{ids_of, sd_element}
use Rattle.syslog_strict.proofs.valid.structured_data.elements_by_pairs.Given as goal

abbrev pub invariant-elements : goal.invariant-elements
invariant-elements l = shadow (Utf8 l.rest) × ((es : List ElementValue)
    × MatchBool l.has_one (0 < length es) (es ≡ []) × Runs sd_element (chars l.text) es (chars l.rest)
    × ((q : Text) (us : List ElementValue) → Front (many sd_element) (chars l.rest) q us → AreDistinct (ids_of us)
    → AreDistinct (ids_of (es ++ us))))

abbrev pub decreases-elements : goal.decreases-elements
decreases-elements l = length (chars l.rest)
