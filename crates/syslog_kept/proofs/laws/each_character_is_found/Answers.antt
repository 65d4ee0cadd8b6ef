use Rattle.syslog_kept.proofs.KeptLemmas.{accounts}
use Rattle.syslog_kept.proofs.laws.each_character_is_found.Goals as goal

pub returns : goal.returns
returns c = accounts
