use Rattle.syslog_object.proofs.Names.{arith}
use Rattle.syslog_object.proofs.BlockLemmas.{control_written}
use Rattle.syslog_object.proofs.blocks.put_control.Goals as goal

pub returns-clause-text : goal.returns-clause-text
returns-clause-text g c =
    let few = c.control-escape.ensures.few in
    control_written g.row.N c.args.at _ c.args.room.now c.put.new.room c.put_lanes.new.room
    c.control-escape.result.now _ _
    c.put.ensures.text c.control-escape.ensures.text (omega (arith, few)) (omega arith) c.put_lanes.ensures
