use Rattle.syslog_object.proofs.Names.{arith, on_ok_weaker}
use Rattle.syslog_object.proofs.GatherLemmas.{pair_at, pairs_long, pairs_of, value_alone, value_first, value_next}
use Rattle.syslog_object.proofs.GatherLemmas.{values_end}
use Rattle.syslog_object.proofs.gather.push_values.Goals as goal

pub returns-then-at-members : goal.returns-then-at-members
returns-then-at-members g c =
    let members = c.args.members.now in
    let pairs = pairs_of g.M.Member.key_of g.M.Member.json members in
    let long = pairs_long g.M.Member.key_of g.M.Member.json members in
    let first = c.args.first in
    let here = pair_at g.M.Member.key_of g.M.Member.json members first _ c.requires.within c.index-members-first.is in
    let next = c.requires.next.each first _ (omega arith) (omega (arith, long)) here in
    on_ok_weaker c.push_json.result
    (λ e. value_alone pairs first _ _ c.args.out.now _ (omega (arith, long)) (omega (arith, long)) here next e)
    c.push_json.ensures

pub values-init : goal.values-init
values-init g c =
    let members = c.args.members.now in
    let pairs = pairs_of g.M.Member.key_of g.M.Member.json members in
    let long = pairs_long g.M.Member.key_of g.M.Member.json members in
    let first = c.args.first in
    let here = pair_at g.M.Member.key_of g.M.Member.json members first _ c.requires.within c.index-members-first-2.is in
    let next = c.requires.next.each first _ (omega arith) (omega (arith, long)) here in
    value_first pairs first _ _ c.args.out.now _ _ (omega (arith, long)) (omega (arith, long)) here next
    c.in_ok-push.ensures c.in_ok-push_json.ensures

pub values-smaller : goal.values-smaller
values-smaller g c =
    let members = c.args.members.now in
    let long = pairs_long g.M.Member.key_of g.M.Member.json members in
    let at = c.values.at in
    let here = pair_at g.M.Member.key_of g.M.Member.json members at _ c.values-test.true c.index-members-at.is in
    let next = c.requires.next.each at _ (omega arith) (omega (arith, long, c.values-test.true)) here in
    omega (arith, next, c.values-test.true)

pub values-preserved : goal.values-preserved
values-preserved g c =
    let members = c.args.members.now in
    let pairs = pairs_of g.M.Member.key_of g.M.Member.json members in
    let long = pairs_long g.M.Member.key_of g.M.Member.json members in
    let at = c.values.at in
    let here = pair_at g.M.Member.key_of g.M.Member.json members at _ c.values-test.true c.index-members-at.is in
    let next = c.requires.next.each at _ (omega arith) (omega (arith, long, c.values-test.true)) here in
    value_next pairs c.args.first at _ _ c.args.out.now c.values.out _ _ (omega (arith, long, c.values-test.true)) here
    next
    c.in_ok-push-2.ensures c.in_ok-push_json-2.ensures c.values.invariant

pub returns : goal.returns
returns g c =
    let members = c.args.members.now in
    let pairs = pairs_of g.M.Member.key_of g.M.Member.json members in
    let long = pairs_long g.M.Member.key_of g.M.Member.json members in
    on_ok_weaker c.push-2.result
    (λ e p is. values_end pairs c.args.first c.values.at c.args.out.now c.values.out _
    (omega (arith, long, c.values-test.false)) c.values.invariant e p is) c.push-2.ensures
