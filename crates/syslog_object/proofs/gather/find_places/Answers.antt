use Rattle.syslog_object.proofs.Names.{arith, false, subst, ◌+◌, ◌-◌, ◌≡◌, ℕ, sym, ap, ◌∙◌}
use Rattle.std.proofs.Common.{replicate}
use Rattle.syslog_object.proofs.GatherLemmas.{AreLater, all_places, no_places, one_place, pair_at, pairs_long, pairs_of}
use Rattle.std.specs.Option.{unwrap_or}
use Rattle.syslog_object.proofs.gather.find_places.Goals as goal

pub members-init : goal.members-init
members-init g c =
    let pairs = pairs_of g.M.Member.key_of g.M.Member.json c.args.members.now in
    let long = pairs_long g.M.Member.key_of g.M.Member.json c.args.members.now in
    no_places pairs _ c.new-first.result c.in_ok-next.next.items c.in_ok-again.again.items (sym long)
    c.new-first.ensures.empty (omega (arith, c.in_ok-next.ensures.len, c.in_ok-next.next.ok.0, long))
    (c.in_ok-again.ensures.items_if_clones_equal (λ y same. same) ∙ ap (λ n. replicate n false) (sym long))

pub members-preserved : goal.members-preserved
members-preserved g c =
    let members = c.args.members.now in
    let pairs = pairs_of g.M.Member.key_of g.M.Member.json members in
    let long = pairs_long g.M.Member.key_of g.M.Member.json members in
    let at = c.members.at - 1 in
    let item = c.index-members-at.result in
    let before : c.members.at ≡ at + 1 = omega (arith, c.members-test.true) in
    one_place pairs at _ c.key.result c.members.first c.insert.new.self c.members.next.items c.members.again.items _
    c.in_ok-insert.field-0 c.unwrap_or-later.result
    (subst (λ (k : ℕ). AreLater pairs k c.members.first c.members.next.items c.members.again.items) before
    c.members.invariant)
    (pair_at g.M.Member.key_of g.M.Member.json members at item (omega (arith, c.members.invariant.within, long))
    c.index-members-at.is)
    c.key.ensures c.in_ok-insert.ensures.old c.in_ok-insert.ensures.updates
    (c.unwrap_or-later.ensures ∙ ap (λ (n : ℕ). unwrap_or c.in_ok-insert.field-0 n) (sym long))
    c.mark.ensures

pub returns : goal.returns
returns g c =
    let pairs = pairs_of g.M.Member.key_of g.M.Member.json c.args.members.now in
    let end : c.members.at ≡ 0 = omega arith in
    all_places pairs c.members.first c.members.next.items c.members.again.items
    (subst (λ (k : ℕ). AreLater pairs k c.members.first c.members.next.items c.members.again.items) end
    c.members.invariant)
