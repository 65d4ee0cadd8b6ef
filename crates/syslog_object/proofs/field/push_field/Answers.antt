use Rattle.syslog_object.proofs.Names.{encodes-chars}
use Rattle.syslog_object.proofs.field.push_field.Goals as goal

pub returns-in-Some : goal.returns-in-Some
returns-in-Some g c = rw (c.in-Some.is, encodes-chars c.in-Some.text.now c.push_text.ensures.utf8)
    c.push_text.ensures.text
