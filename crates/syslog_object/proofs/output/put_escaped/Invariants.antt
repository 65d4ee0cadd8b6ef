use Rattle.syslog_object.proofs.Names.{◌≡◌, ◌++◌, ◌≤◌, ◌-◌, length, drop, take}
use Rattle.std.proofs.Common.{vec_len}
use Rattle.syslog_object.specs.Blocks.{in_json}
use Rattle.syslog_object.proofs.output.put_escaped.Given as goal

abbrev pub invariant-blocks-2 : goal.invariant-blocks-2
invariant-blocks-2 l = (l.at ≤ vec_len l.bytes) × (vec_len l.fn.bytes ≤ vec_len l.bytes) × (l.next ≤ length l.text)
    × (take l.at l.bytes.items ++ in_json l.is_raw (drop l.next l.text)
    ≡ take l.start l.fn.bytes.items ++ in_json l.is_raw l.text)

abbrev pub decreases-blocks-2 : goal.decreases-blocks-2
decreases-blocks-2 l = length l.text - l.next
