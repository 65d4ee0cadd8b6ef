use Rattle.syslog_dated_forms.proofs.Names.{any_front, Iso, Month}
use Rattle.syslog_dated_forms.proofs.MonthFrontLemmas.{bare_start, bare_year, has_month}
use Rattle.syslog_dated_forms.proofs.cisco.shown_led.Goals as goal

pub returns-in-Month : goal.returns-in-Month
returns-in-Month c led = let d = rw c.in-Month.is at led.date in c.shown_after.ensures _ (record {
  started = _;
  at_date = _;
  front = bare_start (has_month d) led.gap;
  year = bare_year (has_month d);
  dated = rw c.sent.ensures (any_front (Month c.in-Month.date) d);
})

pub returns-in-Iso : goal.returns-in-Iso
returns-in-Iso c led = let d = rw c.in-Iso.is at led.date in
    c.shown_from.ensures led.gap (any_front (Iso c.in-Iso.date) d)
