use Rattle.syslog_loose.proofs.Rfc3164Lemmas.{printed_3164_is, printed_apart}
use Rattle.syslog_loose.proofs.laws.printed_rfc3164_is_no_rfc5424.Goals as goal

pub returns : goal.returns
returns c m e = rw (printed_3164_is m e) (printed_apart m)
