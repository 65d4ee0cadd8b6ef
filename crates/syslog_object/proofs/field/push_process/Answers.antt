use Rattle.syslog_object.proofs.Names.{refl, encodes-chars}
use Rattle.syslog_object.proofs.field.push_process.Goals as goal

pub returns-in-Some : goal.returns-in-Some
returns-in-Some c = rw (
  c.in-Some.is,
  c.if-is_bare_word.ensures.0 refl,
  encodes-chars c.in-Some.word.now c.push_text.ensures.utf8,
) c.push_text.ensures.text
