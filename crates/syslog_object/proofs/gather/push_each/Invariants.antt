use Rattle.syslog_object.proofs.Names.{◌≡◌, ◌++◌, map, take}
use Rattle.syslog_object.specs.Parts.{open_text}
use Rattle.syslog_object.proofs.gather.push_each.Given as goal

abbrev pub invariant-loop-at : goal.invariant-loop-at
invariant-loop-at g l =
    l.out ≡ l.fn.out ++ open_text (take l.at (map (λ m. (g.M.Member.key_of m, g.M.Member.json m)) l.members))
