use Rattle.syslog_object.{proofs.GatherLemmas.of_keys, proofs.Names.nil_from_length, proofs.Names.AreDistinct}
use Rattle.syslog_object.proofs.gather.are_distinct.Goals as goal

pub returns-in_default : goal.returns-in_default
returns-in_default g c = c.members.invariant (of_keys AreDistinct g.M.Member.key_of _ _
    (nil_from_length c.members.rest.now c.in_default.ensures.cases) tt)

pub members-preserved : goal.members-preserved
members-preserved g c = λ distinct. c.members.invariant (of_keys AreDistinct g.M.Member.key_of _ _
    c.in-Some.ensures.cases.0 (rw (c.key.ensures) at c.if-not-is_new.ensures, distinct))
