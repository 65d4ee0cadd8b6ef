use Rattle.syslog_object.proofs.Names.{sym, encodes-chars}
use Rattle.syslog_object.proofs.element.ElementMember.key.Goals as goal

pub returns : goal.returns
returns c = rw (sym c.id.ensures) (sym (encodes-chars c.id.result.now c.id.utf8))
