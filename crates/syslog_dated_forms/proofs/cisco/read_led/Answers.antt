use Rattle.syslog_dated_forms.proofs.CiscoLemmas.{none_cisco}
use Rattle.syslog_dated_forms.proofs.cisco.read_led.Goals as goal

pub returns-in_err-line : goal.returns-in_err-line
returns-in_err-line c led = rw c.from_residual.ensures (none_cisco (c.in_err-line.ensures led))

pub returns : goal.returns
returns c led = c.by_system.ensures _ (c.in_ok-line.ensures led)
