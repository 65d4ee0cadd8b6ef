use Rattle.std.specs.List.{repeat}
use Rattle.syslog_loose.proofs.Names.{◌≡◌, ◌++◌, string_bytes}
use Rattle.syslog_loose.proofs.jumps.push_runs.Given as goal

abbrev pub invariant-loop-done : goal.invariant-loop-done
invariant-loop-done l = string_bytes l.text ≡ string_bytes l.initial.text ++ repeat l.done l.run
