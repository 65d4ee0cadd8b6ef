use Rattle.std.proofs.Common.{rules}
use Rattle.syslog_loose.proofs.DashChangeLemmas.{told_by_line}
use Rattle.syslog_loose.proofs.dash_change.has_dash_change.Goals as goal

pub returns-in-None : goal.returns-in-None
returns-in-None c variant dating text of = search (rules, told_by_line)
