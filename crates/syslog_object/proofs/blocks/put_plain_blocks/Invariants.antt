use Rattle.syslog_object.proofs.Names.{◌≡◌, ◌+◌, ◌++◌, ◌≤◌, ◌-◌, length, take, PlainBetween}
use Rattle.syslog_object.proofs.blocks.put_plain_blocks.Given as goal

abbrev pub invariant-blocks-2 : goal.invariant-blocks-2
invariant-blocks-2 g l = (l.seen + g.row.N ≤ length l.text) × PlainBetween l.text 0 l.seen
    × (take (l.at + l.seen) l.room ≡ take l.at l.fn.room ++ take l.seen l.text)

abbrev pub decreases-blocks-2 : goal.decreases-blocks-2
decreases-blocks-2 g l = length l.text - l.seen
