use Rattle.syslog_object.proofs.Names.{sym, ◌∙◌}
use Rattle.json.specs.Print.{escape_byte}
use Rattle.syslog_object.proofs.field.push_timestamp.Goals as goal

pub returns-in-Some : goal.returns-in-Some
unfolding escape_byte
returns-in-Some c = rw (c.in-Some.is, sym (c.as_str.ensures ∙ c.timestamp-text.ensures)) c.push_text.ensures.text
