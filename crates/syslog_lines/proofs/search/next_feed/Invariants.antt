use Rattle.syslog_lines.proofs.Names.{◌≢◌, ℕ, ◌-◌, ◌<◌, ◌≤◌, slice_index}
use Rattle.syslog_lines.proofs.search.next_feed.Given as goal

abbrev pub invariant-loop-seen : goal.invariant-loop-seen
invariant-loop-seen l = record {
  within : l.seen ≤ 256;
  before : (k : ℕ) → k < l.seen → slice_index l.bytes k ≢ 10;
}

abbrev pub decreases-loop-seen : goal.decreases-loop-seen
decreases-loop-seen l = 256 - l.seen
