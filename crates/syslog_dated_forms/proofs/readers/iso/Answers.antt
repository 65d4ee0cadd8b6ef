use Rattle.syslog_dated_forms.proofs.Names.{apart}
use Rattle.syslog_dated_forms.proofs.readers.iso.Goals as goal

pub returns-in-Month : goal.returns-in-Month
returns-in-Month c text led = (_, led.gap, apart (rw c.in-Month.is at led.date))

pub returns-in-Iso : goal.returns-in-Iso
returns-in-Iso c text led = (_, led.gap, (rw c.in-Iso.is at led.date).1)
