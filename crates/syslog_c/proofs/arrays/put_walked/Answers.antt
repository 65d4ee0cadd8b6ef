use Rattle.syslog_c.proofs.Words.{arith, length, append_assoc, length-append, shown, param_value, params_left, IsParam}
use Rattle.syslog_c.proofs.Words.{◌∙◌, ◌+◌, ◌<◌, ◌++◌, ◌∷◌, [], ℕ, List, ap, sym, Text}
use Rattle.syslog_c.proofs.ArrayLemmas.{begun_next}
use Rattle.syslog_c.proofs.arrays.put_walked.Goals as goal

pub loop-param-preserved : goal.loop-param-preserved
loop-param-preserved c =
    let (put, whole, long, begun) = c.loop-param.invariant in
    let v = param_value (λ s. shown s) c.in-Some.param in
    let rest = params_left c.next.new.self in
    let all = ap (λ (ps : List (Text × Text)). put ++ ps) (sym c.in-Some.ensures.steps) ∙ whole in
    let places : c.loop-param.i < length c.loop-param.array =
    omega (arith, long, ap length all, length-append put (v ∷ rest), c.requires, c.loop-param.auto.array) in (
      put ++ (v ∷ []),
      append_assoc put (v ∷ []) rest ∙ all,
      length-append put (v ∷ []) ∙ ap (λ (n : ℕ). n + 1) long,
      begun_next IsParam put v _ _ _ _ long places begun c.param_of.ensures,
    )
