use Rattle.syslog_c.proofs.read.read_unread.Goals as goal

pub returns-in-Some : goal.returns-in-Some
returns-in-Some c dating none = (_, c.in-Some.ensures dating none)
