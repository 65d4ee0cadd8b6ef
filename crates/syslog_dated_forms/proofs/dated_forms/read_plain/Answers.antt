use Rattle.syslog_dated_forms.proofs.dated_forms.read_plain.Goals as goal

pub returns-in-Month : goal.returns-in-Month
returns-in-Month c text led = c.after_month.ensures _ _ led.gap (rw c.in-Month.is at led.date)

pub returns-in-Iso : goal.returns-in-Iso
returns-in-Iso c text led = let (n, d) = rw c.in-Iso.is at led.date in c.after_iso.ensures _ led.gap n d
