use Rattle.syslog_dated_forms.proofs.Names.{found_early, found_late, marked_forms, xr_forms}
use Rattle.syslog_dated_forms.proofs.dated_forms.read_unled.Goals as goal

pub returns-in-Some : goal.returns-in-Some
returns-in-Some c none = found_early marked_forms xr_forms _ c.in-Some.found (c.in-Some.ensures none)

pub returns : goal.returns
returns c none =
    found_late marked_forms xr_forms _ c.from_unled.result (c.in_default.ensures none) (c.from_unled.ensures none)
