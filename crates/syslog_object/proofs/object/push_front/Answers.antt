use Rattle.syslog_object.proofs.Names.{on_ok_weaker}
use Rattle.syslog_object.proofs.WriterLemmas.{nine_appended}
use Rattle.syslog_object.proofs.object.push_front.Goals as goal

pub returns-clause-text : goal.returns-clause-text
returns-clause-text c =
    let facility = rw (c.facility_members.ensures, c.facility.ensures) at c.in_ok-push_slice.ensures in
    let severity = rw (c.severity_members.ensures, c.severity.ensures) at c.in_ok-push_slice-2.ensures in
    on_ok_weaker c.push_field-4.result
    (λ e. nine_appended _ _ _ _ _ _ _ _ _ _ _ _ _ _ _ _ _ _ _ c.in_ok-push_protocol.ensures.text
    c.in_ok-push_field.ensures facility severity c.in_ok-push_timestamp.ensures c.in_ok-push_field-2.ensures
    c.in_ok-push_field-3.ensures c.in_ok-push_process.ensures e)
    c.push_field-4.ensures
