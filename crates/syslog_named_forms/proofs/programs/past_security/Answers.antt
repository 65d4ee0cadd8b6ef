use Rattle.syslog_named_forms.proofs.Names.{codes, exactly, None, optional_none, optional_some, Some}
use Rattle.syslog_named_forms.proofs.programs.past_security.Goals as goal

pub returns-in-Some : goal.returns-in-Some
returns-in-Some c = (Some tt, optional_some (exactly (codes "|security")) c.in-Some.ensures)

pub returns-in-None : goal.returns-in-None
returns-in-None c = (None, optional_none (exactly (codes "|security")) c.in-None.ensures)
