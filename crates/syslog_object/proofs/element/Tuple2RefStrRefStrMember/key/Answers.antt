use Rattle.syslog_object.proofs.Names.{sym, encodes-chars}
use Rattle.syslog_object.proofs.element.Tuple2RefStrRefStrMember.key.Goals as goal

pub returns : goal.returns
returns c = rw (sym c.name.ensures) (sym (encodes-chars c.name.result.now c.name.utf8))
