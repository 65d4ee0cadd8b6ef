use Rattle.syslog_loose.proofs.Names.{rules, subst, sym, chars, IsUtf8, Text, PassesDashes}
use Rattle.syslog_loose.proofs.SettlingLemmas.Settles.{some_next, dashes_front, passes_spaced, passes_both}
use Rattle.syslog_loose.proofs.jumps.past_many_dashes.Goals as goal

pub many-preserved : goal.many-preserved
many-preserved c =
    let (n, p) = c.many.invariant.1 in
    let from = c.many.from.now in
    let rest = c.in-Some.rest.now in
    let v : IsUtf8 rest = search rules in
    let (next, f) = some_next (chars rest) _ c.after_dash.result c.if-is_none.ensures c.after_dash.ensures in
    let same = dashes_front from rest 16 c.many.invariant.0 v c.in-Some.ensures.cases in (
      v,
      passes_both n 16 (chars c.args.text.now) (chars from) (chars rest) p
          (subst (λ (x : Text). PassesDashes 16 x (chars rest)) (sym same) (passes_spaced 16 (chars rest) next f)),
    )
