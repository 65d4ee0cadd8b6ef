use Rattle.syslog_pieces.proofs.Names.{arith, common_steps}
use Rattle.syslog_pieces.proofs.front.Ascii.push.Goals as goal

pub invariant_of-self : goal.invariant_of-self
invariant_of-self c = grind (arith, common_steps)
