use Rattle.syslog_c.proofs.Words.{◌≤◌, length}
use Rattle.std.proofs.Common.{◌-◌}
use Rattle.syslog_c.proofs.RowLemmas.{AreRead}
use Rattle.syslog_c.proofs.lines.read_rows.Given as goal

abbrev pub invariant-loop-count : goal.invariant-loop-count
invariant-loop-count l =
    AreRead l.options l.buffer l.rest l.initial.rows l.rows l.count × (l.count ≤ length l.rows)

abbrev pub decreases-loop-count : goal.decreases-loop-count
decreases-loop-count l = length l.initial.rows - l.count
