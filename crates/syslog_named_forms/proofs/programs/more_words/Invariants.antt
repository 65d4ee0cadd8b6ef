use Rattle.syslog_named_forms.proofs.Names.{chars, later_word, length, List, Runs, shadow, spaced, Utf8}
use Rattle.syslog_named_forms.proofs.programs.more_words.Given as goal

abbrev pub invariant-words : goal.invariant-words
invariant-words l = shadow (Utf8 l.rest)
    × ((vs : List later_word.Value) × Runs (spaced later_word) (chars l.text) vs (chars l.rest))

abbrev pub decreases-words : goal.decreases-words
decreases-words l = length (chars l.rest)
