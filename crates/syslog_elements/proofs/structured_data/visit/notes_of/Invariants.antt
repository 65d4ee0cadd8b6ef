use Rattle.syslog_elements.proofs.Names.{map, param_value, shown}
use Rattle.syslog_elements.proofs.structured_data.visit.notes_of.Given as goal

abbrev pub invariant-loop-name : goal.invariant-loop-name
invariant-loop-name g l = g.N.ParamNotes.noted l.notes (map (param_value (λ s. shown s)) l.yielded)
