use Rattle.syslog_strict.proofs.GrammarLemmas.{msg_told, no_msg}
use Rattle.syslog_text.proofs.PieceLemmas.Class.{false_is}
use Rattle.syslog_strict.proofs.valid.is_syslog_msg.Goals as goal

pub returns-in-Some : goal.returns-in-Some
returns-in-Some c = let (vs, f) = c.in-Some.ensures in
    msg_told c.is_no_text.result f c.is_no_text.ensures

pub returns-in-None : goal.returns-in-None
returns-in-None c = false_is (no_msg c.in-None.ensures)
