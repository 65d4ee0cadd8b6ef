use Rattle.syslog_named_forms.proofs.Names.{optional_none, optional_some, program}
use Rattle.syslog_named_forms.proofs.programs.optional_program.Goals as goal

pub returns-in-Some : goal.returns-in-Some
returns-in-Some c = optional_some program c.in-Some.ensures

pub returns-in-None : goal.returns-in-None
returns-in-None c = optional_none program c.in-None.ensures
