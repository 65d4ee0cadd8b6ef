use Rattle.syslog_dialects.proofs.Names.{refl}
use Rattle.syslog_dialects.proofs.PriorityAloneLemmas.{alone_none, alone_said}
use Rattle.syslog_dialects.proofs.priority_alone.read_alone.Goals as goal

pub returns-then-not-is_alone : goal.returns-then-not-is_alone
returns-then-not-is_alone c = alone_none c.blanks-msg.ensures c.if-not-is_alone.ensures

pub returns : goal.returns
returns c = alone_said c.blanks-msg.ensures c.if-not-is_alone.ensures refl
