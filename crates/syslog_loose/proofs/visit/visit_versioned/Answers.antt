use Rattle.syslog_loose.proofs.Names.{refl}
use Rattle.syslog_loose.proofs.visit.visit_versioned.Goals as goal

pub returns-in_default : goal.returns-in_default
returns-in_default g c whole f = (c.in_default.ensures.reads whole f, refl, c.in_default.ensures.visited)

pub returns : goal.returns
returns g c whole f = (c.in-Some.line, c.in-Some.ensures.reads whole f, c.line.ensures, c.in-Some.ensures.visited)
