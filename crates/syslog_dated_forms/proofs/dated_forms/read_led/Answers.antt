use Rattle.syslog_dated_forms.proofs.Names.{found_early, found_late, marked_forms, xr_forms}
use Rattle.syslog_dated_forms.proofs.dated_forms.read_led.Goals as goal

pub returns-in-Some : goal.returns-in-Some
returns-in-Some c led = found_early marked_forms xr_forms _ c.in-Some.found (c.in-Some.ensures led)

pub returns : goal.returns
returns c led =
    found_late marked_forms xr_forms _ c.from_led.result (c.in_default.ensures led) (c.from_led.ensures _ led)
