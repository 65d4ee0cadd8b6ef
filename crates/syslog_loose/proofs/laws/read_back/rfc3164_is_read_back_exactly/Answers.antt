use Rattle.syslog_loose.proofs.SettlingLemmas.Falls.{rfc3164_exact}
use Rattle.syslog_loose.proofs.laws.read_back.rfc3164_is_read_back_exactly.Goals as goal

pub returns : goal.returns
returns c = rfc3164_exact
