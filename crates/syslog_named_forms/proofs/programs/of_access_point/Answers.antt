use Rattle.syslog_named_forms.proofs.ColonLemmas.{no_access_point}
use Rattle.syslog_named_forms.proofs.programs.of_access_point.Goals as goal

pub returns-in-Some : goal.returns-in-Some
returns-in-Some c after = no_access_point (rw c.in-Some.is at after)

pub returns-in-None : goal.returns-in-None
returns-in-None c after = c.point_first.ensures
