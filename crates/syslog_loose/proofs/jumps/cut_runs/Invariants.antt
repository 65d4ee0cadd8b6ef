use Rattle.syslog_loose.proofs.Names.{◌+◌, ◌≤◌, length, shadow, Utf8, CutsColons}
use Rattle.syslog_loose.proofs.jumps.cut_runs.Given as goal

abbrev pub invariant-cuts : goal.invariant-cuts
invariant-cuts l = shadow (Utf8 l.host) × (l.cut + length l.host ≤ length l.name) × CutsColons l.name l.host l.cut

abbrev pub decreases-cuts : goal.decreases-cuts
decreases-cuts l = length l.host
