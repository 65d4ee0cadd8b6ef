use Rattle.syslog_object.proofs.Names.{encodes-chars}
use Rattle.syslog_object.proofs.element.Tuple2RefStrRefStrMember.push_json.Goals as goal

pub returns : goal.returns
returns c = rw (encodes-chars c.args.self.now.1.now c.push_between.ensures.utf8) c.push_between.ensures.text
