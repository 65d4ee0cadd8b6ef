use Rattle.syslog_sent.proofs.LedLemmas.{no_any}
use Rattle.syslog_sent.proofs.led.leading_date.Goals as goal

pub returns-in-Some : goal.returns-in-Some
returns-in-Some c = c.in-Some.ensures

pub returns-in_err-date : goal.returns-in_err-date
returns-in_err-date c = rw c.from_residual.ensures (no_any c.in_default.ensures c.in_err-date.ensures)

pub returns : goal.returns
returns c = (c.in_default.ensures, c.in_ok-date.ensures)
