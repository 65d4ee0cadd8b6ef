use Rattle.syslog_dialects.proofs.NoteLemmas.{later_byte, no_byte}
use Rattle.syslog_dialects.proofs.note.may_be_note.Goals as goal

pub returns-in-empty : goal.returns-in-empty
returns-in-empty c = λ e note. no_byte _ _ c.as_bytes.ensures.value c.in-empty.len_below note

pub returns-else-first-lt46 : goal.returns-else-first-lt46
returns-else-first-lt46 c = λ high note.
    later_byte _ _ c.as_bytes.ensures.value c.in-len1-up.len_at_least c.if-first-lt46.false high note
