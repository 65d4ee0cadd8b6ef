use Rattle.syslog_sent.proofs.NamedLemmas.{ascii_told, prefix_told}
use Rattle.syslog_sent.proofs.named.past.Goals as goal

pub returns : goal.returns
returns c = prefix_told _ _ (ascii_told _ c.requires) c.utf8.text _ c.strip_prefix.ensures.cases
