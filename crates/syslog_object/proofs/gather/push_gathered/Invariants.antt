use Rattle.syslog_object.proofs.Names.{◌≡◌, ◌++◌, map}
use Rattle.syslog_object.specs.Parts.{open_text}
use Rattle.syslog_object.specs.Places.{begun}
use Rattle.syslog_object.proofs.gather.push_gathered.Given as goal

abbrev pub invariant-loop-at : goal.invariant-loop-at
invariant-loop-at g l =
    l.out ≡ l.fn.out ++ open_text (begun (map (λ m. (g.M.Member.key_of m, g.M.Member.json m)) l.members) l.at)
