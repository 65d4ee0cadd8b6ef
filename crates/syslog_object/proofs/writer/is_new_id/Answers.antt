use Rattle.syslog_object.proofs.Names.{List, ℕ, sym, drop_more, Bor, IsNewKey}
use Rattle.std.proofs.Common.{drop_of_length-le}
use Rattle.syslog_object.proofs.GatherLemmas.{of_keys}
use Rattle.syslog_object.proofs.writer.is_new_id.Goals as goal

pub returns : goal.returns
returns c = c.loop-other.invariant (of_keys (IsNewKey c.args.id.now) (λ (s : Bor (List ℕ)). s.now) _ _
    (drop_of_length-le c.args.ids.now c.loop-other-test.false) tt)

pub loop-other-preserved : goal.loop-other-preserved
loop-other-preserved c = λ new. c.loop-other.invariant
    (of_keys (IsNewKey c.args.id.now) (λ (s : Bor (List ℕ)). s.now) _ _
    (drop_more c.args.ids.now c.loop-other.other-index _ c.loop-other-test.true) (sym c.if-eq.ensures, new))
