use Rattle.syslog_named_forms.proofs.Names.{◌∙◌, sym}
use Rattle.syslog_named_forms.proofs.UntaggedLemmas.{list_told, no_list_end}
use Rattle.syslog_named_forms.proofs.marks.may_be_list.Goals as goal

pub returns-in-Some : goal.returns-in-Some
returns-in-Some c h = list_told c.split.ensures c.in-Some.ensures.0 (sym c.ends_list.ensures ∙ h)

pub returns-in-None : goal.returns-in-None
returns-in-None c h = no_list_end c.split.ensures c.in-None.ensures
