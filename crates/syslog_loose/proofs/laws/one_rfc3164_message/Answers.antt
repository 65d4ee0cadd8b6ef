use Rattle.syslog_loose.proofs.Rfc3164Lemmas.{one_message}
use Rattle.syslog_loose.proofs.laws.one_rfc3164_message.Goals as goal

pub returns : goal.returns
returns c = one_message
