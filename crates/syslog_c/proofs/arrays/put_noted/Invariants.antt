use Rattle.syslog_c.proofs.Words.{map, take, shown, param_value, IsBegun, IsParam}
use Rattle.syslog_c.proofs.arrays.put_noted.Given as goal

abbrev pub invariant-loop-i : goal.invariant-loop-i
invariant-loop-i l = IsBegun IsParam (map (param_value (λ s. shown s)) (take l.i l.params)) l.initial.array l.array
