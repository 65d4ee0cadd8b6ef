use Rattle.syslog_sent.proofs.ZoneLemmas.{no_sign}
use Rattle.syslog_sent.proofs.zone.sign.Goals as goal

pub returns-in_err-rest : goal.returns-in_err-rest
returns-in_err-rest c = rw c.from_residual.ensures (no_sign c.in_default.ensures c.in_err-rest.ensures)
