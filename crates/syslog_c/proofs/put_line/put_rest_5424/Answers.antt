use Rattle.syslog_c.proofs.Words.{[], ◌∷◌, append_assoc}
use Rattle.syslog_c.proofs.TextLemmas.{chars_of_literals, text_after, text_along}
use Rattle.syslog_c.proofs.put_line.put_rest_5424.Goals as goal

pub returns : goal.returns
unfolding chars_of_literals
returns c =
    let process = rw c.process-process.ensures at c.put_process.ensures in
    let names = text_after _ _ _ _ _
    (text_after _ _ _ _ _ (text_after _ _ _ _ _ c.put_name.ensures c.put_name-2.ensures) process)
    c.put_name-3.ensures in
    let list = text_after _ _ _ _ _ (text_after _ _ _ _ (32 ∷ []) names c.put.ensures) c.put_list.ensures in
    text_along _ _ _ _ (simp append_assoc)
    (text_after _ _ _ _ _ (text_after _ _ _ _ (32 ∷ []) list c.put-2.ensures) c.put-3.ensures)
