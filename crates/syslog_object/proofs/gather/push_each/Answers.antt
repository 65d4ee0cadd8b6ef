use Rattle.syslog_object.proofs.Names.{◌≡◌, ◌++◌, ℕ, append-nil, arith, length, on_ok_weaker, subst, sym, take}
use Rattle.syslog_object.specs.Parts.{open_text}
use Rattle.syslog_object.proofs.GatherLemmas.{all_added, member_added, pair_at, pairs_long, pairs_of}
use Rattle.syslog_object.proofs.gather.push_each.Goals as goal

pub loop-at-init : goal.loop-at-init
loop-at-init g c = sym (append-nil c.args.out.now)

pub loop-at-preserved : goal.loop-at-preserved
loop-at-preserved g c =
    let members = c.args.members.now in
    let pairs = pairs_of g.M.Member.key_of g.M.Member.json members in
    let long = pairs_long g.M.Member.key_of g.M.Member.json members in
    let at = c.loop-at.at in
    let here = pair_at g.M.Member.key_of g.M.Member.json members at _ c.loop-at-test.true c.index-members-at.is in
    member_added pairs at _ c.args.out.now _ _ _ _ (omega (arith, long, c.loop-at-test.true)) here c.key.ensures
    c.loop-at.invariant c.in_ok-push_key.ensures c.in_ok-push_json.ensures

pub returns : goal.returns
returns g c =
    let members = c.args.members.now in
    let pairs = pairs_of g.M.Member.key_of g.M.Member.json members in
    let end : c.loop-at.at ≡ length members = omega arith in
    let held = subst (λ (k : ℕ). c.loop-at.out ≡ c.args.out.now ++ open_text (take k pairs)) end c.loop-at.invariant in
    on_ok_weaker c.push_end.result
    (λ e. all_added pairs _ c.args.out.now _ _ (pairs_long g.M.Member.key_of g.M.Member.json members) held e)
    c.push_end.ensures
