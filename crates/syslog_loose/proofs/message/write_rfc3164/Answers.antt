use Rattle.syslog_loose.proofs.Names.{arith, put_five, encodes_shown}
use Rattle.syslog_loose.{proofs.PrintedLemmas.written_3164, specs.Printed.printed_3164}
use Rattle.syslog_loose.proofs.message.write_rfc3164.Goals as goal

pub returns : goal.returns
unfolding printed_3164
returns g c canonical ok = grind (arith, encodes_shown, put_five, written_3164)
