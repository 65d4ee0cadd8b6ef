use Rattle.syslog_text.proofs.Names.{◌-◌, ◌≤◌, ◌<◌, ◌≡◌, ℕ, true, length, slice_index, byte_in}
use Rattle.syslog_text.proofs.text.scan.ascii_run.Given as goal

abbrev pub invariant-blocks-2 : goal.invariant-blocks-2
invariant-blocks-2 l = (l.end ≤ length l.bytes) × ((k : ℕ) → k < l.end → byte_in l.class (slice_index l.bytes k) ≡ true)

abbrev pub decreases-blocks-2 : goal.decreases-blocks-2
decreases-blocks-2 l = length l.bytes - l.end

abbrev pub invariant-tail : goal.invariant-tail
invariant-tail l = (l.end ≤ length l.bytes) × ((k : ℕ) → k < l.end → byte_in l.class (slice_index l.bytes k) ≡ true)

abbrev pub decreases-tail : goal.decreases-tail
decreases-tail l = length l.bytes - l.end
