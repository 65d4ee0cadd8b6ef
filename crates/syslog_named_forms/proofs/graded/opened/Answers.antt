use Rattle.syslog_named_forms.proofs.Names.{Bracket, mark_class}
use Rattle.syslog_named_forms.proofs.ReaderLemmas.{begun}
use Rattle.syslog_named_forms.proofs.graded.opened.Goals as goal

pub returns : goal.returns
returns c = begun (mark_class Bracket) _ _ c.mark_end.result _ c.mark_end.ensures c.untagged_from.ensures
