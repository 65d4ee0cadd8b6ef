use Rattle.syslog_named_forms.proofs.Names.{◌≡◌, chars, length, List, noted, notes_value, Runs, shadow, Text, Utf8}
use Rattle.syslog_named_forms.specs.Pairs.{pair}
use Rattle.syslog_named_forms.proofs.pairs.read_notes.Given as goal

abbrev pub invariant-pairs : goal.invariant-pairs
invariant-pairs l = shadow (Utf8 l.rest) × ((ps : List (Text × Text)) × Runs pair (chars l.text) ps (chars l.rest)
    × (notes_value l.notes ≡ noted ps))

abbrev pub decreases-pairs : goal.decreases-pairs
decreases-pairs l = length (chars l.rest)
