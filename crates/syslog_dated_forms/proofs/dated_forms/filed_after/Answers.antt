use Rattle.syslog_dated_forms.proofs.Names.{filed_forms, found_early, found_late, timed_forms}
use Rattle.syslog_dated_forms.proofs.OtherFormLemmas.{led_date}
use Rattle.syslog_dated_forms.proofs.dated_forms.filed_after.Goals as goal

pub returns-in-Some : goal.returns-in-Some
returns-in-Some c text led = found_early filed_forms timed_forms _ c.in-Some.found
    (c.in-Some.ensures _ _ led.gap (led_date c.args.led.now led))

pub returns : goal.returns
returns c text led = found_late filed_forms timed_forms _ c.from_timed.result
    (c.in_default.ensures _ _ led.gap (led_date c.args.led.now led)) (c.from_timed.ensures text
    led)
