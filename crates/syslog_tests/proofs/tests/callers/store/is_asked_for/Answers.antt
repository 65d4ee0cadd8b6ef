use Rattle.std.proofs.Common.{inl, inr, refl}
use Rattle.syslog_loose.proofs.ReadingLemmas.{in_this_year}
use Rattle.syslog_tests.proofs.tests.callers.store.is_asked_for.Goals as goal

pub returns-in-Ok : goal.returns-in-Ok
returns-in-Ok c =
    inr (_, in_this_year c.in-Ok.ensures.reads c.args.year c.ranges.year (λ date y is. is.1), c.answers.ensures)

pub returns-in-Err-Invalid : goal.returns-in-Err-Invalid
returns-in-Err-Invalid c =
    inl (
      in_this_year (rw c.in-Err-Invalid.field-0-is at c.in-Err-Invalid.ensures.reads) c.args.year c.ranges.year
          (λ date y is. is.1),
      refl,
    )
