use Rattle.syslog_c.proofs.Words.{[], ◌∷◌, append_assoc}
use Rattle.syslog_c.proofs.TextLemmas.{chars_of_literals, text_after, text_along}
use Rattle.syslog_c.proofs.put_line.put_tag.Goals as goal

pub returns-in_default : goal.returns-in_default
unfolding chars_of_literals
returns-in_default c = rw c.in_default.is c.put.ensures

pub returns-in_default-process : goal.returns-in_default-process
unfolding chars_of_literals
returns-in_default-process c = rw (c.in-Some.is, c.in_default-process.is) (text_after _ _ _ _ (58 ∷ 32 ∷ [])
    (text_after _ _ _ (32 ∷ []) _ c.put-2.ensures c.put-3.ensures) c.put-in_default-process.ensures)

pub returns : goal.returns
unfolding chars_of_literals
returns c = rw (c.in-Some.is, c.in-Some-process.is) (text_along _ _ _ _ (simp append_assoc)
    (text_after _ _ _ _ (93 ∷ 58 ∷ 32 ∷ []) (text_after _ _ _ _ _ (text_after _ _ _ _ (91 ∷ [])
    (text_after _ _ _ (32 ∷ []) _ c.put-2.ensures c.put-3.ensures) c.put-4.ensures) c.put_procid.ensures)
    c.put-5.ensures))
