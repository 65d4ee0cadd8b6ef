use Rattle.std.proofs.Common.{refl}
use Rattle.syslog_lines.specs.Output.{Written}
use Rattle.syslog_tests.proofs.tests.pump.EchoLineFilter.filter_bytes.Goals as goal

pub returns-clause-ok : goal.returns-clause-ok
returns-clause-ok c = (Written c.args.line.now, tt, c.in_ok-push_line.ensures.ok, refl)
