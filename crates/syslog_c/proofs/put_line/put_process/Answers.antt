use Rattle.syslog_c.proofs.Words.{[], ◌∷◌}
use Rattle.syslog_c.proofs.TextLemmas.{chars_of_literals, text_after}
use Rattle.syslog_c.proofs.put_line.put_process.Goals as goal

pub returns-in-Some : goal.returns-in-Some
unfolding chars_of_literals
returns-in-Some c = rw c.in-Some.is (text_after _ _ _ (32 ∷ []) _ c.put.ensures c.put_procid.ensures)

pub returns-in-None : goal.returns-in-None
unfolding chars_of_literals
returns-in-None c = rw c.in-None.is (text_after _ _ _ (32 ∷ []) (45 ∷ []) c.put.ensures c.put-in-None.ensures)
