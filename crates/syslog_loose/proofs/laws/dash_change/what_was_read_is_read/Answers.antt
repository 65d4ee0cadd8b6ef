use Rattle.syslog_loose.proofs.DashChangeLemmas.{unread_alike}
use Rattle.syslog_loose.proofs.laws.dash_change.what_was_read_is_read.Goals as goal

pub returns : goal.returns
returns c = λ variant dating text. unread_alike dating text variant
