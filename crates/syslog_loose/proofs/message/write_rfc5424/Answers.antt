use Rattle.syslog_loose.proofs.Names.{arith, put_five, encodes_shown}
use Rattle.syslog_loose.{proofs.PrintedLemmas.written_5424, specs.Printed.printed_5424}
use Rattle.syslog_loose.proofs.message.write_rfc5424.Goals as goal

pub returns : goal.returns
unfolding printed_5424
returns g c canonical ok = grind (arith, encodes_shown, put_five, written_5424)
