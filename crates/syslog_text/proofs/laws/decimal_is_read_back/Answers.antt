use Rattle.syslog_text.proofs.TextLemmas.Words.{number_back}
use Rattle.syslog_text.proofs.laws.decimal_is_read_back.Goals as goal

pub returns : goal.returns
returns c = number_back
