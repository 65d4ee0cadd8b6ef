use Rattle.syslog_object.proofs.Names.{sym, IsNewKey}
use Rattle.std.proofs.Common.{drop_of_length-le}
use Rattle.syslog_object.proofs.GatherLemmas.{at_place, of_keys}
use Rattle.syslog_object.proofs.gather.is_new.Goals as goal

pub returns : goal.returns
returns g c = c.loop-member.invariant (of_keys (IsNewKey c.args.key.now) g.M.Member.key_of _ _
    (drop_of_length-le c.args.members.now c.loop-member-test.false) tt)

pub loop-member-preserved : goal.loop-member-preserved
loop-member-preserved g c = λ new. c.loop-member.invariant (of_keys (IsNewKey c.args.key.now) g.M.Member.key_of _ _
    (at_place c.args.members.now c.loop-member.member-index c.member-item.result c.loop-member-test.true
    c.member-item.is)
    (sym (rw (c.key.ensures) at c.if-eq.ensures), new))
