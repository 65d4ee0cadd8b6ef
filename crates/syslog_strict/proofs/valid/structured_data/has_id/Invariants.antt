use Rattle.syslog_strict.proofs.Words.{◌≡◌, List, length, chars, Text, ElementValue, Front, is_among}
use denote.Text.{Utf8}
use denote.Shadow.{shadow}
use Rattle.syslog_text.specs.Pieces.Lists.{many}
use Rattle.syslog_strict.specs.Grammar.{ids_of, sd_element}
use Rattle.syslog_strict.proofs.valid.structured_data.has_id.Given as goal

abbrev pub invariant-elements : goal.invariant-elements
invariant-elements l = shadow (Utf8 l.rest)
    × ((q : Text) (es : List ElementValue) → Front (many sd_element) (chars l.text) q es
    → (us : List ElementValue) × Front (many sd_element) (chars l.rest) q us
    × (is_among (chars l.id) (ids_of es) ≡ is_among (chars l.id) (ids_of us)))

abbrev pub decreases-elements : goal.decreases-elements
decreases-elements l = length (chars l.rest)
