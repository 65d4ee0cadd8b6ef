use Rattle.syslog_loose.proofs.Rfc3164Lemmas.{division_is_stamped}
use Rattle.syslog_loose.proofs.laws.rfc3164_fails_before_its_timestamp_alone.Goals as goal

pub returns : goal.returns
returns c = division_is_stamped
