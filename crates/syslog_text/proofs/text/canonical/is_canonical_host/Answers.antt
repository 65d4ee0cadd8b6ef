use Rattle.syslog_text.proofs.TextLemmas.Words.{host_told}
use Rattle.syslog_text.proofs.text.canonical.is_canonical_host.Goals as goal

pub returns : goal.returns
returns c = host_told _ _ _ c.host.ensures c.is_whole.ensures
