use Rattle.syslog_elements.proofs.Names.{◌≡◌, ◌+◌, ◌≤◌, List, Text, chars, length, shadow, Utf8}
use Rattle.syslog_text.proofs.PieceLemmas.Rules.{Runs}
use Rattle.syslog_elements.specs.StructuredData.Pairs.{pair}
use Rattle.syslog_elements.proofs.structured_data.pairs.walk_pairs.Given as goal

abbrev pub invariant-pairs : goal.invariant-pairs
invariant-pairs l = shadow (Utf8 l.rest) × ((ps : List (Text × Text)) × Runs pair (chars l.text) ps (chars l.rest)
    × (l.count ≡ length ps) × (l.count + length (chars l.rest) ≤ length (chars l.text)))

abbrev pub decreases-pairs : goal.decreases-pairs
decreases-pairs l = length (chars l.rest)
