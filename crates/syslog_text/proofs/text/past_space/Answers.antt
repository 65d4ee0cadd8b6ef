use Rattle.syslog_text.proofs.TextLemmas.Runs.{gap_cut, gap_space, gap_some}
use Rattle.syslog_text.proofs.Names.{refl}
use Rattle.syslog_text.proofs.text.past_space.Goals as goal

pub split_at-requires : goal.split_at-requires
split_at-requires c =
    gap_cut c.args.text.now c.utf8.text (rw c.as_bytes.ensures.value at (c.if-begins_with_gap.ensures refl))

pub returns-then-begins_with_gap : goal.returns-then-begins_with_gap
returns-then-begins_with_gap c =
    let bytes = c.args.text.now in
    let gap = rw c.as_bytes.ensures.value at (c.if-begins_with_gap.ensures refl) in
    let back = c.split_at.ensures.back in
    (gap_some bytes c.utf8.text gap _ back, gap_space bytes gap _ back)
