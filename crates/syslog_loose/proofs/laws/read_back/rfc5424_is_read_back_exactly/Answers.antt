use Rattle.syslog_loose.proofs.Rfc5424Lemmas.{canonical_read, read_is_canonical}
use Rattle.syslog_loose.proofs.laws.read_back.rfc5424_is_read_back_exactly.Goals as goal

pub returns : goal.returns
returns c rule version m e b = (read_is_canonical rule version m e, canonical_read rule version m e b)
