use Rattle.syslog_object.proofs.Names.{on_ok_weaker, ap, ◌∙◌, ◌++◌, codes}
use Rattle.json.specs.Print.{escape_byte}
use Rattle.syslog_object.proofs.WriterLemmas.{two_appended}
use Rattle.syslog_object.proofs.field.push_protocol.Goals as goal

pub returns-in_ok-push-in-Some-clause-text : goal.returns-in_ok-push-in-Some-clause-text
unfolding escape_byte
returns-in_ok-push-in-Some-clause-text c = rw (c.in-Some.is) (on_ok_weaker c.push_slice.result
    (λ e. two_appended _ _ _ _ _ _ c.in_ok-push-in-Some.ensures e
    (ap (λ xs. codes "{\"protocol\":\"RFC5424\",\"version\":" ++ xs) (c.as_bytes.ensures.value
    ∙ c.format-digits.ensures.text)))
    c.push_slice.ensures)
