use Rattle.syslog_loose.proofs.Rfc5424Lemmas.{completed, read_again}
use Rattle.syslog_loose.proofs.laws.read_back.printed_rfc5424_prints_again.Goals as goal

pub returns : goal.returns
returns c text m r = let (read, same) = read_again text m r in (completed m, read, same)
