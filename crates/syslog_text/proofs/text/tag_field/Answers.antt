use Rattle.syslog_text.proofs.Names.{tag_word, optional_some, spaced_front, no_spaced_space, spaced, optional_none}
use Rattle.syslog_text.proofs.text.tag_field.Goals as goal

pub returns-in_default : goal.returns-in_default
returns-in_default c = optional_none (spaced tag_word) (no_spaced_space tag_word c.in_default.ensures)

pub returns-in-Some-tag_word : goal.returns-in-Some-tag_word
returns-in-Some-tag_word c = rw c.of.ensures (optional_some (spaced tag_word)
    (spaced_front tag_word c.in-Some.ensures c.in-Some-tag_word.ensures))
