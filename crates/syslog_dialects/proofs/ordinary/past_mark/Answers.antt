use Rattle.syslog_dialects.proofs.OrdinaryLemmas.{mark_first, mark_second}
use Rattle.syslog_dialects.proofs.ordinary.past_mark.Goals as goal

pub returns-in-Some : goal.returns-in-Some
returns-in-Some c = mark_first c.in-Some.ensures

pub returns-in-None : goal.returns-in-None
returns-in-None c = mark_second _ _ c.in-None.ensures c.literal.ensures
