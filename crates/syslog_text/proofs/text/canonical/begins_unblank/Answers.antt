use Rattle.syslog_text.proofs.TextLemmas.Words.{none_told}
use Rattle.syslog_text.proofs.text.canonical.begins_unblank.Goals as goal

pub returns : goal.returns
returns c = none_told _ _ _ _ c.split_run.ensures _ c.is_empty.ensures
