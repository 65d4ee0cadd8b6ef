use Rattle.syslog_pieces.proofs.Names.{arith, common_steps}
use Rattle.syslog_pieces.proofs.timestamp.instant.is_early.Goals as goal

pub returns-then-clock-clause-civil : goal.returns-then-clock-clause-civil
returns-then-clock-clause-civil c = grind (arith, common_steps)

pub returns-else-clock-clause-year : goal.returns-else-clock-clause-year
returns-else-clock-clause-year c = grind arith

pub returns-then-clock-clause-year : goal.returns-then-clock-clause-year
returns-then-clock-clause-year c = grind arith

pub returns-else-clock-clause-civil : goal.returns-else-clock-clause-civil
returns-else-clock-clause-civil c = grind arith
