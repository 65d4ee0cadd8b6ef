use Rattle.syslog_named_forms.proofs.ColonLemmas.{no_hostless}
use Rattle.syslog_named_forms.proofs.programs.hostless.Goals as goal

pub returns-in-Some : goal.returns-in-Some
returns-in-Some c after = no_hostless (rw c.in-Some.is at after)

pub returns-in-None : goal.returns-in-None
returns-in-None c after = c.program_first.ensures
