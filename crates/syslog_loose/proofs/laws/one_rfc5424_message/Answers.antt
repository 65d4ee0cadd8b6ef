use Rattle.syslog_loose.proofs.Rfc5424Lemmas.{one_message}
use Rattle.syslog_loose.proofs.laws.one_rfc5424_message.Goals as goal

pub returns : goal.returns
returns c = one_message
