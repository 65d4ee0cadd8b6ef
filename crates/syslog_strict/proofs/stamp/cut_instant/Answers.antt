use Rattle.syslog_pieces.proofs.Names.{arith, common_steps}
use Rattle.syslog_strict.proofs.stamp.cut_instant.Goals as goal

pub returns : goal.returns
returns c = grind (arith, common_steps)
