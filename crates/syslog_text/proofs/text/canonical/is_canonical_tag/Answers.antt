use Rattle.syslog_text.proofs.TextLemmas.Words.{tag_told}
use Rattle.syslog_text.proofs.text.canonical.is_canonical_tag.Goals as goal

pub returns : goal.returns
returns c = tag_told _ _ _ c.tag_word.ensures c.is_whole.ensures
