use Rattle.syslog_loose.proofs.Names.{arith}
use Rattle.syslog_loose.proofs.settling.settle.Goals as goal

pub returns-in_err-settle_into-clause-settles : goal.returns-in_err-settle_into-clause-settles
returns-in_err-settle_into-clause-settles g c = grind arith
