use Rattle.syslog_lines.proofs.Names.{◌≤◌, ◌-◌, Some, length, take, drop, AddsWhole}
use Rattle.syslog_lines.specs.Frames.{IsOpen}
use Rattle.syslog_lines.specs.Output.{taken}
use Rattle.syslog_lines.proofs.apply.Collected.filter_each.Given as goal

abbrev pub invariant-loop-message : goal.invariant-loop-message
invariant-loop-message g l = record {
  within : l.past ≤ length l.bytes;
  known_within : l.known ≤ length (drop l.past l.bytes);
  unended : IsOpen l.frames.framing (take l.known (drop l.past l.bytes));
  so_far : AddsWhole l.frames (taken l.frames (g.F.LineFilter.answers l.filter)) l.bytes (drop l.past l.bytes)
      (Some l.fn.self.output.items) (Some l.self.output.items) l.fn.self.tally l.self.tally;
}

abbrev pub decreases-loop-message : goal.decreases-loop-message
decreases-loop-message g l = length l.bytes - l.past
