use Rattle.syslog_loose.proofs.Rfc5424Lemmas.{read_canonical}
use Rattle.syslog_loose.proofs.laws.read_back.read_rfc5424_is_canonical.Goals as goal

pub returns : goal.returns
returns c = read_canonical
