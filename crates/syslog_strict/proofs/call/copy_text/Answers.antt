use Rattle.syslog_strict.proofs.Words.{ap, chars}
use Rattle.syslog_strict.proofs.TextLemmas.{started}
use Rattle.syslog_strict.proofs.call.copy_text.Goals as goal

pub returns-in-Ok : goal.returns-in-Ok
returns-in-Ok c = started _ _ _ c.in-Ok.ensures (ap chars c.clear.ensures.bytes)
