use Rattle.syslog_command_line.proofs.ValueLemmas.{size_unread}
use Rattle.syslog_command_line.proofs.values.read_size.Goals as goal

pub returns-in_default : goal.returns-in_default
returns-in_default c = size_unread _ c.parse.result c.in_default.not-Ok c.parse.ensures.value.0
