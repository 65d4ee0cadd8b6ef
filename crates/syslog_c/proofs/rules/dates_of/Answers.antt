use Rattle.jiff.specs.Words.{plain_zone}
use Rattle.syslog_c.proofs.rules.dates_of.Goals as goal

pub returns-in_default : goal.returns-in_default
returns-in_default c = λ dates are. c.in_default.ensures (plain_zone dates.zone) are.zone
