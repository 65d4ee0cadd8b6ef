use Rattle.syslog_c.proofs.Words.{[], ◌∷◌, append_assoc}
use Rattle.syslog_c.proofs.TextLemmas.{chars_of_literals, text_after, text_along}
use Rattle.syslog_c.proofs.put_line.put_param.Goals as goal

pub returns : goal.returns
unfolding chars_of_literals
returns c =
    text_along _ _ _ _ (simp append_assoc)
    (text_after _ _ _ _ (34 ∷ []) (text_after _ _ _ _ _ (text_after _ _ _ _ (61 ∷ 34 ∷ [])
    (text_after _ _ _ (32 ∷ []) _ c.put.ensures c.put-2.ensures) c.put-3.ensures) c.put-4.ensures) c.put-5.ensures)
