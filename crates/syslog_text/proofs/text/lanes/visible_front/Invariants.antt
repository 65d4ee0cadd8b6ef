use Rattle.syslog_text.proofs.Names.{◌-◌, ◌≤◌, ◌<◌, ◌≡◌, ℕ, true, length, slice_index, visible_byte}
use Rattle.syslog_text.proofs.text.lanes.visible_front.Given as goal

abbrev pub invariant-blocks-2 : goal.invariant-blocks-2
invariant-blocks-2 l = (l.end ≤ length l.bytes) × ((k : ℕ) → k < l.end → visible_byte (slice_index l.bytes k) ≡ true)

abbrev pub decreases-blocks-2 : goal.decreases-blocks-2
decreases-blocks-2 l = length l.bytes - l.end
