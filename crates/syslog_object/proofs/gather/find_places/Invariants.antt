use Rattle.syslog_object.proofs.Names.{map}
use Rattle.syslog_object.proofs.GatherLemmas.{AreLater}
use Rattle.syslog_object.proofs.gather.find_places.Given as goal

abbrev pub invariant-members : goal.invariant-members
invariant-members g l =
    AreLater (map (λ m. (g.M.Member.key_of m, g.M.Member.json m)) l.members) l.at l.first l.next.items l.again.items

abbrev pub decreases-members : goal.decreases-members
decreases-members g l = l.at
