use Rattle.std.proofs.Common.{◌≡◌, ℕ, ◌-◌, ◌≤◌, ◌<◌, true, length}
use Rattle.std.specs.Prelude.{slice_index}
use Rattle.syslog_sent.specs.Runs.{is_of}
use Rattle.syslog_sent.proofs.runs.run_len.Given as goal

abbrev pub invariant-fours : goal.invariant-fours
invariant-fours l = (l.end ≤ length l.bytes) × ((k : ℕ) → k < l.end → is_of l.run (slice_index l.bytes k) ≡ true)

abbrev pub decreases-fours : goal.decreases-fours
decreases-fours l = length l.bytes - l.end

abbrev pub invariant-tail : goal.invariant-tail
invariant-tail l = (l.end ≤ length l.bytes) × ((k : ℕ) → k < l.end → is_of l.run (slice_index l.bytes k) ≡ true)

abbrev pub decreases-tail : goal.decreases-tail
decreases-tail l = length l.bytes - l.end
