use Rattle.syslog_named_forms.proofs.Names.{codes, exactly, None, optional_none, optional_some, Some}
use Rattle.syslog_named_forms.proofs.untagged.past_last.Goals as goal

pub returns-in-Some : goal.returns-in-Some
returns-in-Some c = (Some tt, optional_some (exactly (codes "last ")) c.in-Some.ensures)

pub returns-in-None : goal.returns-in-None
returns-in-None c = (None, optional_none (exactly (codes "last ")) c.in-None.ensures)
