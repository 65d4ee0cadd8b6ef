use Rattle.syslog_dialects.proofs.Names.{◌++◌, dated_forms, found_early, found_late, named_forms, plain_forms, Some}
use Rattle.syslog_dialects.proofs.Names.{undated_forms}
use Rattle.syslog_dialects.proofs.UndatedLemmas.{led_no_undated}
use Rattle.syslog_dialects.specs.Dialects as dialects
use Rattle.syslog_dialects.proofs.dialects.read_led.Goals as goal

pub returns-in-Some : goal.returns-in-Some
returns-in-Some c led =
    found_early dialects.dated_forms (named_forms ++ plain_forms) _ c.in-Some.found (c.in-Some.ensures led)

pub returns-in-Some-read_led : goal.returns-in-Some-read_led
returns-in-Some-read_led c led = let found = c.in-Some-read_led.found in
    found_late dialects.dated_forms (named_forms ++ plain_forms) _ (Some found) (c.in_default.ensures led)
    (found_early dated_forms (undated_forms ++ plain_forms) _ found (c.in-Some-read_led.ensures _ led))

pub returns : goal.returns
returns c led = let r = c.read_plain.result in
    found_late dialects.dated_forms (named_forms ++ plain_forms) _ r (c.in_default.ensures led)
    (found_late dated_forms (undated_forms ++ plain_forms) _ r (c.in_default-read_led.ensures _ led)
    (found_late undated_forms plain_forms _ r (led_no_undated led) (c.read_plain.ensures _ led)))
