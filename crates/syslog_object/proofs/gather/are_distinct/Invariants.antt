use Rattle.syslog_object.proofs.Names.{length, map, AreDistinct}
use Rattle.syslog_object.proofs.gather.are_distinct.Given as goal

abbrev pub invariant-members : goal.invariant-members
invariant-members g l = AreDistinct (map g.M.Member.key_of l.rest) → AreDistinct (map g.M.Member.key_of l.members)

abbrev pub decreases-members : goal.decreases-members
decreases-members g l = length l.rest
