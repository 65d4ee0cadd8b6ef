use Rattle.syslog_c.proofs.Words.{append_assoc}
use Rattle.syslog_c.proofs.TextLemmas.{text_after, text_along}
use Rattle.syslog_c.proofs.put_line.put_rest_3164.Goals as goal

pub returns : goal.returns
returns c =
    let tag = rw c.process-process.ensures at c.put_tag.ensures in
    text_along _ _ _ _ (simp append_assoc) (text_after _ _ _ _ _ (text_after _ _ _ _ _ (text_after _ _ _ _ _
    c.put_name.ensures tag) c.put_spaced_list.ensures) c.put.ensures)
