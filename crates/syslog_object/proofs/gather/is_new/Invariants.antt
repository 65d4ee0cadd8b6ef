use Rattle.syslog_object.proofs.Names.{drop, map, IsNewKey}
use Rattle.syslog_object.proofs.gather.is_new.Given as goal

abbrev pub invariant-loop-member : goal.invariant-loop-member
invariant-loop-member g l =
    IsNewKey l.key (map g.M.Member.key_of (drop l.member-index l.members))
    → IsNewKey l.key (map g.M.Member.key_of l.members)
