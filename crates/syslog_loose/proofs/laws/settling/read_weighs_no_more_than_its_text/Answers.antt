use Rattle.syslog_loose.proofs.SettlingLemmas.Weights.{light}
use Rattle.syslog_loose.proofs.laws.settling.read_weighs_no_more_than_its_text.Goals as goal

pub returns : goal.returns
returns c = light
