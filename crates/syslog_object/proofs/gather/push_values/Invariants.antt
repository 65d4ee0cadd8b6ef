use Rattle.syslog_object.proofs.Names.{length, map, ◌-◌}
use Rattle.syslog_object.proofs.GatherLemmas.{Values}
use Rattle.syslog_object.proofs.gather.push_values.Given as goal

abbrev pub invariant-values : goal.invariant-values
invariant-values g l =
    Values (map (λ m. (g.M.Member.key_of m, g.M.Member.json m)) l.members) l.first l.at l.fn.out l.out

abbrev pub decreases-values : goal.decreases-values
decreases-values g l = length l.members - l.at
