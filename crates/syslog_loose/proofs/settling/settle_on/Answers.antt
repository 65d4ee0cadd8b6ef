use Rattle.syslog_loose.proofs.Names.{◌≡◌, ◌+◌, ◌-◌, arith, suc, err_from_is_err_and}
use Rattle.syslog_loose.proofs.SettlingLemmas.Settles.{last_pass, pass_before}
use Rattle.syslog_loose.proofs.settling.settle_on.Goals as goal

pub returns-in_err-settled-clause-settles : goal.returns-in_err-settled-clause-settles
returns-in_err-settled-clause-settles c = λ dating input start.
    let (_, e, same) = err_from_is_err_and c.from_residual.result c.from_residual.ensures.1 in
    rw (e, same) ((rw (c.as_str.ensures.value, c.swap.ensures.x_after) at c.in_err-settled.ensures) dating input _
    (c.loop-done.invariant dating input start).1)

pub returns-then-settled-clause-settles : goal.returns-then-settled-clause-settles
returns-then-settled-clause-settles c = λ dating input start.
    (rw c.if-settled.true at ((rw (c.as_str.ensures.value, c.swap.ensures.x_after) at c.in_ok-settled.ensures)
    dating input _
    (c.loop-done.invariant dating input start).1)).1

pub returns-then-settled-clause-passes : goal.returns-then-settled-clause-passes
returns-then-settled-clause-passes c = λ dating input start.
    let (below, reached, leads) = c.loop-done.invariant dating input start in
    let told = (rw c.if-settled.true at ((rw (
      c.as_str.ensures.value,
      c.swap.ensures.x_after,
    ) at c.in_ok-settled.ensures)
    dating input _ reached)).0 in
    let left : 5 - c.loop-done.done ≡ suc (4 - c.loop-done.done) = omega (arith, below) in
    leads _ (rw left (last_pass c.args.variant dating _ _ _ told))

pub loop-done-preserved : goal.loop-done-preserved
loop-done-preserved c = λ dating input start.
    let (below, reached, leads) = c.loop-done.invariant dating input start in
    let (told, (lower, e, more)) = rw c.if-settled.false at ((rw (c.as_str.ensures.value, c.swap.ensures.x_after) at
    c.in_ok-settled.ensures) dating input _ reached) in
    let left : 4 - (c.loop-done.done + 1) ≡ lower = omega (arith, e) in
    let passes : 5 - c.loop-done.done ≡ suc (5 - (c.loop-done.done + 1)) = omega (arith, below) in
    (omega (arith, e), rw left more, λ u h. leads u (rw passes (pass_before c.args.variant dating _ _ _ u told h)))

pub returns-clause-settles : goal.returns-clause-settles
returns-clause-settles c = λ dating input start.
    let (below, _, _) = c.loop-done.invariant dating input start in
    absurd (omega (arith, below, c.loop-done-test.false))

pub returns-clause-passes : goal.returns-clause-passes
returns-clause-passes c = λ dating input start.
    let (below, _, _) = c.loop-done.invariant dating input start in
    absurd (omega (arith, below, c.loop-done-test.false))
