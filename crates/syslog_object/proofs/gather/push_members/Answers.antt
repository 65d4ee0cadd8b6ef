use Rattle.syslog_object.proofs.GatherLemmas.{distinct_gathered}
use Rattle.syslog_object.proofs.gather.push_members.Goals as goal

pub returns-then-are_distinct : goal.returns-then-are_distinct
returns-then-are_distinct g c =
    rw (distinct_gathered g.M.Member.key_of g.M.Member.json c.args.members.now c.if-are_distinct.ensures) at
    c.push_each.ensures
