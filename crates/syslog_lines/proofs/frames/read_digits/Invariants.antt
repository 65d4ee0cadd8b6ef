use Rattle.syslog_lines.proofs.Names.{◌≡◌, ◌-◌, ◌<◌, ◌≤◌, ◌^◌, length, take}
use Rattle.std.specs.List.{All}
use Rattle.syslog_lines.specs.Frames.{IsDigit, number_after}
use Rattle.syslog_lines.proofs.frames.read_digits.Given as goal

abbrev pub invariant-loop-size : goal.invariant-loop-size
invariant-loop-size l = record {
  few : l.size ≤ 9;
  within : l.size ≤ length l.bytes;
  small : l.octets < 10 ^ l.size;
  each : All IsDigit (take l.size l.bytes);
  value : l.octets ≡ number_after 0 (take l.size l.bytes);
}

abbrev pub decreases-loop-size : goal.decreases-loop-size
decreases-loop-size l = 9 - l.size
