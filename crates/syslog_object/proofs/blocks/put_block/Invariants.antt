use Rattle.syslog_object.proofs.Names.{take}
use Rattle.syslog_object.proofs.BlockLemmas.{AreLeft}
use Rattle.syslog_object.proofs.blocks.put_block.Given as goal

abbrev pub invariant-stops : goal.invariant-stops
invariant-stops g l = AreLeft g.row.N l.is_raw (take l.at l.fn.room) l.text l.at l.first l.room l.end l.left

abbrev pub decreases-stops : goal.decreases-stops
decreases-stops g l = l.left
