use Rattle.syslog_dated_forms.proofs.Names.{◌++◌, cisco_forms, filed_forms, found_early, found_late, refl, timed_forms}
use Rattle.syslog_dated_forms.proofs.MarkLemmas.{unmarked_marked}
use Rattle.syslog_dated_forms.proofs.dated_forms.of_cisco.Goals as goal

pub returns-then-not-is_marked : goal.returns-then-not-is_marked
returns-then-not-is_marked c led = unmarked_marked (c.if-not-is_marked.ensures refl)

pub returns-in-Some : goal.returns-in-Some
returns-in-Some c led =
    found_early cisco_forms (filed_forms ++ timed_forms) _ c.in-Some.found (c.in-Some.ensures led)

pub returns : goal.returns
returns c led = found_late cisco_forms (filed_forms ++ timed_forms) _ c.filed_after.result
    (c.in_default.ensures led) (c.filed_after.ensures _ led)
