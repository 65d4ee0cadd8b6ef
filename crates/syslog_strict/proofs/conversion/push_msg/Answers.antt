use Rattle.syslog_strict.proofs.Words.{ap, sym, Text, chars}
use Rattle.syslog_elements.proofs.StructuredDataLemmas.Unparsed.{any_none, any_some}
use Rattle.syslog_strict.specs.Conversion.{spaced_before}
use Rattle.syslog_strict.proofs.TextLemmas.{appended}
use Rattle.syslog_strict.proofs.conversion.push_msg.Goals as goal

pub returns-in-Some : goal.returns-in-Some
returns-in-Some c left e = appended c.push_unparsed.result _ _ _ _
    (ap (λ (x : Text). spaced_before x (chars c.args.msg.now)) (sym (any_some _ left (rw c.in-Some.is at e))))
    c.push_unparsed.ensures

pub returns-in-None : goal.returns-in-None
returns-in-None c left e = appended c.push_text.result _ _ _ _
    (ap (λ (x : Text). spaced_before x (chars c.args.msg.now)) (sym (any_none left (rw c.in-None.is at e))))
    c.push_text.ensures
