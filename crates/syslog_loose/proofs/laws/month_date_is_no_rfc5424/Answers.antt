use Rattle.syslog_loose.proofs.Rfc3164Lemmas.{shown_apart}
use Rattle.syslog_loose.proofs.laws.month_date_is_no_rfc5424.Goals as goal

pub returns : goal.returns
returns c = shown_apart
