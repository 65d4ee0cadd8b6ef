use Rattle.std.proofs.Common.{◌≡◌, ◌++◌, ◌∷◌, length}
use Rattle.syslog_csv.specs.Records.{doubled}
use Rattle.syslog_csv.proofs.record.push_quoted.Given as goal

abbrev pub invariant-quotes : goal.invariant-quotes
invariant-quotes l = l.output.items ++ doubled l.rest ≡ l.fn.output.items ++ (34 ∷ doubled l.fn.field)

abbrev pub decreases-quotes : goal.decreases-quotes
decreases-quotes l = length l.rest
