use Rattle.syslog_text.proofs.TextLemmas.Words.{only_told}
use Rattle.syslog_text.proofs.text.canonical.is_only.Goals as goal

pub returns : goal.returns
returns c = only_told _ _ _ _ c.split_run.ensures _ c.is_empty.ensures
