use Rattle.syslog_loose.proofs.SettlingLemmas.Falls.{rank_falls}
use Rattle.syslog_loose.proofs.laws.settling.each_pass_lowers_the_rank.Goals as goal

pub returns-clause-falls : goal.returns-clause-falls
returns-clause-falls c = λ first second text m later n rank p r s. rank_falls first second text later n r s m rank p
