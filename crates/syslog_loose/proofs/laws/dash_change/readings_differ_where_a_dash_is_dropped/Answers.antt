use Rattle.syslog_loose.proofs.DashChangeLemmas.{differs_where_dash_change}
use Rattle.syslog_loose.proofs.laws.dash_change.readings_differ_where_a_dash_is_dropped.Goals as goal

pub returns : goal.returns
returns c = λ variant dating text. differs_where_dash_change dating text variant
