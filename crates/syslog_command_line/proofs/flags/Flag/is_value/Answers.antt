use Rattle.syslog_command_line.proofs.ValueLemmas.{some_iff}
use Rattle.syslog_command_line.specs.Arguments.{NamesOffset}
use Rattle.syslog_command_line.proofs.flags.Flag.is_value.Goals as goal

pub returns-in-Offset : goal.returns-in-Offset
returns-in-Offset c = rw c.in-Offset.is (some_iff (λ seconds. NamesOffset c.args.text.now seconds)
    c.read_offset.result _
    c.read_offset.ensures c.is_some.ensures)
