use Rattle.syslog_object.proofs.BlockLemmas.{stored}
use Rattle.syslog_object.proofs.blocks.put_lanes.Goals as goal

pub returns : goal.returns
returns g c = stored g.row.N c.args.at c.args.room.now c.args.first c.args.text.now c.requires.room c.requires.more
