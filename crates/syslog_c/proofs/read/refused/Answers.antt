use Rattle.syslog_c.proofs.Words.{inr, refl}
use Rattle.syslog_c.proofs.read.refused.Goals as goal

pub returns-then-take : goal.returns-then-take
returns-then-take c = inr (refl, (c.take.new.self, c.take.ensures.taken c.if-take.true))
