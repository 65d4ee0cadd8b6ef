use Rattle.syslog_object.proofs.Names.{◌≡◌, ◌<◌, ◌++◌, ◌∙◌, ℕ, ap, append-nil, arith, length, on_ok_weaker, refl}
use Rattle.syslog_object.proofs.Names.{subst, sym}
use Rattle.std.proofs.lemmas.Bool.Decides.{nat_tests}
use Rattle.syslog_object.specs.{Parts.open_text, Places.begun}
use Rattle.syslog_object.proofs.GatherLemmas.{all_begun, flagged, group_added, group_came, pair_at, pairs_long}
use Rattle.syslog_object.proofs.GatherLemmas.{pairs_of}
use Rattle.syslog_object.proofs.gather.push_gathered.Goals as goal

pub loop-at-init : goal.loop-at-init
loop-at-init g c = sym (append-nil c.args.out.now)

pub loop-at-preserved-then-index : goal.loop-at-preserved-then-index
loop-at-preserved-then-index g c =
    let members = c.args.members.now in
    let pairs = pairs_of g.M.Member.key_of g.M.Member.json members in
    let at = c.loop-at.at in
    let here = pair_at g.M.Member.key_of g.M.Member.json members at _ c.loop-at-test.true c.index-members-at.is in
    let within : at < length pairs =
    omega (arith, pairs_long g.M.Member.key_of g.M.Member.json members, c.loop-at-test.true) in
    let flag = flagged pairs _ _ at _ _ c.in_ok-places.ensures within here c.index.ensures in
    c.loop-at.invariant ∙ ap (λ bs. c.args.out.now ++ open_text bs)
    (sym (group_came pairs at _ within here (grind (arith, nat_tests, flag, c.if-index.true))))

pub push_values-requires : goal.push_values-requires
push_values-requires g c =
    λ k. ((refl, tt), (c.loop-at-test.true, rw (c.as_slice.ensures.value) c.in_ok-places.ensures.next))

pub loop-at-preserved : goal.loop-at-preserved
loop-at-preserved g c =
    let members = c.args.members.now in
    let pairs = pairs_of g.M.Member.key_of g.M.Member.json members in
    let at = c.loop-at.at in
    let here = pair_at g.M.Member.key_of g.M.Member.json members at _ c.loop-at-test.true c.index-members-at.is in
    let within : at < length pairs =
    omega (arith, pairs_long g.M.Member.key_of g.M.Member.json members, c.loop-at-test.true) in
    let flag = flagged pairs _ _ at _ _ c.in_ok-places.ensures within here c.index.ensures in
    group_added pairs at _ c.args.out.now _ _ _ _ within here c.key.ensures
    (grind (arith, nat_tests, flag, c.if-index.false)) c.loop-at.invariant c.in_ok-push_key.ensures
    (c.in_ok-push_values.ensures _ here)

pub returns : goal.returns
returns g c =
    let members = c.args.members.now in
    let pairs = pairs_of g.M.Member.key_of g.M.Member.json members in
    let end : c.loop-at.at ≡ length members = omega arith in
    let held = subst (λ (k : ℕ). c.loop-at.out ≡ c.args.out.now ++ open_text (begun pairs k)) end c.loop-at.invariant in
    on_ok_weaker c.push_end.result
    (λ e. all_begun pairs _ c.args.out.now _ _ (pairs_long g.M.Member.key_of g.M.Member.json members) held e)
    c.push_end.ensures
