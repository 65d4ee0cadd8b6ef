use Rattle.syslog_loose.proofs.Rfc3164Lemmas.{not_both}
use Rattle.syslog_loose.proofs.laws.no_text_has_both_divisions.Goals as goal

pub returns : goal.returns
returns c = not_both
