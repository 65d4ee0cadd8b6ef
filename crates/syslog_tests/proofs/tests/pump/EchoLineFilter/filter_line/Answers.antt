use Rattle.std.proofs.Common.{refl}
use Rattle.syslog_lines.specs.Output.{Written}
use Rattle.syslog_tests.proofs.tests.pump.EchoLineFilter.filter_line.Goals as goal

pub returns-clause-ok : goal.returns-clause-ok
returns-clause-ok c =
    let added = rw c.as_bytes.ensures.value at c.in_ok-push_line.ensures.ok in
    (Written c.args.line.now, tt, added, refl)
