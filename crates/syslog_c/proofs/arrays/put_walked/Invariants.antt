use Rattle.syslog_c.proofs.Words.{◌≡◌, ◌++◌, List, length, Text, element_seen, params_left, IsBegun, IsParam}
use Rattle.syslog_c.proofs.arrays.put_walked.Given as goal

-- the parameters up to here were put
abbrev pub invariant-loop-param : goal.invariant-loop-param
invariant-loop-param l = (put : List (Text × Text))
    × (put ++ params_left l.param-iterator ≡ (element_seen l.fn.element).params)
    × (length put ≡ l.i) × IsBegun IsParam put l.initial.array l.array
