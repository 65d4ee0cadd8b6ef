use Rattle.std.proofs.Common.{eq-eqb}
use Rattle.syslog_elements.proofs.Names.{ElementValue, start_row, eqb-true, no_row, rules, subst, refl, [], sym, inl}
use Rattle.syslog_elements.proofs.{Names.err_from_is_err_and, StructuredDataLemmas.Elements.start_det}
use Rattle.syslog_elements.proofs.StructuredDataLemmas.Walk.{value_passes, not_closed, not_separated, ends, ends_walked}
use Rattle.syslog_elements.proofs.StructuredDataLemmas.Walk.{goes_on, bare_inside, bare_walked, at_first, not_opened}
use Rattle.syslog_elements.proofs.StructuredDataLemmas.Closing.{byte_count_slice, dead_suffix, no_start}
use Rattle.syslog_elements.proofs.structured_data.walk.walk_element.Goals as goal

pub returns-in_default-clause-walked : goal.returns-in_default-clause-walked
returns-in_default-clause-walked g c = (no_start (no_row start_row start_det (inl c.in_default.ensures)), c.requires)

pub new-requires : goal.new-requires
new-requires g c = (_, ([], bare_inside c.in-Some-literal.ensures, refl))

pub returns-in-Some-literal-clause-walked : goal.returns-in-Some-literal-clause-walked
returns-in-Some-literal-clause-walked g c =
    let is = c.new.ensures _ [] (bare_inside c.in-Some-literal.ensures) in
    bare_walked _ _ c.in-Some.ensures c.in-Some-nonempty_run.ensures c.gap-stands.ensures.blanks
    c.in-Some-literal.ensures (search rules) (search rules) (search rules) is
    ((λ same. eqb-true _ _ same), (λ same. eq-eqb _ _ same))

pub returns-in-Some-literal-clause-noted : goal.returns-in-Some-literal-clause-noted
returns-in-Some-literal-clause-noted g c =
    subst (λ (x : ElementValue). g.N.ParamNotes.noted c.clear.new.self x.params)
    (sym (c.new.ensures _ [] (bare_inside c.in-Some-literal.ensures))) c.clear.ensures

pub params-init : goal.params-init
params-init g c =
    let first = at_first _ _ c.in-Some.ensures c.in-Some-nonempty_run.ensures c.gap-stands.ensures.blanks
    c.in_default-literal.ensures c.gap-stands.ensures.space in
    (search rules, ([], first, c.clear.ensures))

pub returns-in_default-open_param-clause-walked : goal.returns-in_default-open_param-clause-walked
returns-in_default-open_param-clause-walked g c =
    not_opened c.params.invariant.1.1 c.in_default-open_param.ensures _
    (sym (byte_count_slice c.params.at.now c.params.invariant.0))

pub live_value-requires : goal.live_value-requires
live_value-requires g c =
    let p = value_passes c.params.invariant.1.1 c.in-Some-open_param.ensures.0 in
    dead_suffix _ p.piece _ c.args.dead p.whole c.requires

pub returns-in_err-after-clause-walked : goal.returns-in_err-after-clause-walked
returns-in_err-after-clause-walked g c =
    let (d, e, same) = err_from_is_err_and c.from_residual.result c.from_residual.ensures.1 in
    rw (e, same) (not_closed c.params.invariant.1.1 c.in-Some-open_param.ensures.0 _ c.in_err-after.ensures.0
    c.in_err-after.ensures.1)

pub new-requires-in-Some-literal-2 : goal.new-requires-in-Some-literal-2
new-requires-in-Some-literal-2 g c =
    let e = ends c.params.invariant.1.1 c.in-Some-open_param.ensures.0 c.value_before.ensures
    c.in-Some-literal-2.ensures in
    (_, (_, e.0, e.1))

pub returns-in-Some-literal-2-clause-walked : goal.returns-in-Some-literal-2-clause-walked
returns-in-Some-literal-2-clause-walked g c =
    let (ps, at, noted) = c.params.invariant.1 in
    let o = c.in-Some-open_param.ensures in
    let close = c.in-Some-literal-2.ensures in
    ends_walked at o.0 c.value_before.ensures o.1 close (search rules)
    (c.new-in-Some-literal-2.ensures _ _ (ends at o.0 c.value_before.ensures close).0) ((λ t. t), (λ t. t))

pub returns-in-Some-literal-2-clause-noted : goal.returns-in-Some-literal-2-clause-noted
returns-in-Some-literal-2-clause-noted g c =
    let (ps, at, noted) = c.params.invariant.1 in
    let e = ends at c.in-Some-open_param.ensures.0 c.value_before.ensures c.in-Some-literal-2.ensures in
    subst (λ (x : ElementValue). g.N.ParamNotes.noted c.push.new.self x.params)
    (sym (c.new-in-Some-literal-2.ensures _ _ e.0)) (c.push.ensures ps noted)

pub returns-in_default-literal-3-clause-walked : goal.returns-in_default-literal-3-clause-walked
returns-in_default-literal-3-clause-walked g c =
    not_separated c.params.invariant.1.1 c.in-Some-open_param.ensures.0 c.value_before.ensures
    c.in_default-literal-2.ensures c.in_default-literal-3.ensures _
    (sym (byte_count_slice c.in_ok-after.after.now (search rules)))

pub params-preserved : goal.params-preserved
params-preserved g c =
    let (ps, at, noted) = c.params.invariant.1 in
    let o = c.in-Some-open_param.ensures in
    let on = goes_on at o.0 c.value_before.ensures o.1 c.in-Some-literal-3.ensures in
    (search rules, (_, on, c.push.ensures ps noted))
