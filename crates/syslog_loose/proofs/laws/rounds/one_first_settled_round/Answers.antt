use Rattle.syslog_loose.proofs.SettlingLemmas.Settles.{one_first_settled}
use Rattle.syslog_loose.proofs.laws.rounds.one_first_settled_round.Goals as goal

pub returns : goal.returns
returns c = one_first_settled
