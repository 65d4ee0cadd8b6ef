use Rattle.syslog_text.proofs.TextLemmas.Words.{word_told}
use Rattle.syslog_text.proofs.text.canonical.is_canonical_word.Goals as goal

pub returns : goal.returns
returns c = word_told _ _ _ c.word.ensures c.is_whole.ensures
