use Rattle.syslog_text.proofs.TextLemmas.Runs.{one_cut, one_front, no_one_front}
use Rattle.syslog_text.proofs.text.literal.Goals as goal

pub split_at-requires : goal.split_at-requires
split_at-requires c = one_cut _ _ c.requires c.utf8.text (rw c.as_bytes.ensures.value at c.if-begins_with.ensures)

pub returns-then-begins_with : goal.returns-then-begins_with
returns-then-begins_with c =
    one_front _ _ c.requires c.utf8.text (rw c.as_bytes.ensures.value at c.if-begins_with.ensures) _
    c.split_at.ensures.back

pub returns-else-begins_with : goal.returns-else-begins_with
returns-else-begins_with c =
    no_one_front _ _ c.requires c.utf8.text (rw c.as_bytes.ensures.value at c.if-begins_with.ensures)
