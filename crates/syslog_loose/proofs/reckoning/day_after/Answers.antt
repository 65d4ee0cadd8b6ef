use Rattle.std.proofs.{Common.arith, Common.pos, Common.sym, Common.true≢false, lemmas.Int.by_lt_z}
use Rattle.jiff.{proofs.SpanFacts.signed_arith, specs.Words.epoch_day}
use Rattle.syslog_loose.proofs.YearLemmas.{last_day}
use Rattle.syslog_loose.proofs.reckoning.day_after.Goals as goal

pub returns-in-Err : goal.returns-in-Err
returns-in-Err c = λ year month number. (
  λ it. (it.0, it.1, omega (arith, signed_arith, it.2)),
  λ it. (
    it.0,
    it.1,
    by_lt_z (epoch_day c.args.day) (pos 2_932_896)
        (λ less. absurd (true≢false (sym (c.in-Err.ensures.succeeds.1 less))))
        (λ last. omega (arith, signed_arith, last_day it.0, last)),
  ),
)

pub returns-in-Ok : goal.returns-in-Ok
returns-in-Ok c = λ year month number. (
  λ it. (it.0, it.1, omega (arith, signed_arith, it.2, c.in-Ok.ensures.value)),
  λ it. (it.0, it.1, omega (arith, signed_arith, it.2, c.in-Ok.ensures.value)),
)
