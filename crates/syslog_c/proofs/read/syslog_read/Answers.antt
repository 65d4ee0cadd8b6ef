use Rattle.syslog_c.proofs.read.syslog_read.Goals as goal

pub returns-in-Ok : goal.returns-in-Ok
returns-in-Ok c = rw c.in-Ok.ensures.0 at c.read_text.ensures
