use Rattle.std.proofs.Common.{inl, inr}
use Rattle.syslog_loose.specs.declared.variant.Variant.TheVariants.{Either}
use Rattle.syslog_loose.proofs.ReadBackLemmas.{read_bounded, printed_exact}
use Rattle.syslog_loose.proofs.ReadingLemmas.{in_this_year}
use Rattle.syslog_tests.proofs.tests.callers.relay.relay.Goals as goal

pub returns-in-Ok-clause-prints : goal.returns-in-Ok-clause-prints
returns-in-Ok-clause-prints c = λ text is.
    let (canonical, written) = c.printed_anew.ensures.prints text is in
    let read = in_this_year c.in-Ok.ensures.reads c.args.year c.ranges.year (λ date y is. is.1) in
    inr (
      _,
      read,
      (written, λ receiver. (printed_exact receiver _ (read_bounded Either _ _ _ read.read) Either tt).1 canonical),
    )

pub returns-in-Ok-clause-keeps : goal.returns-in-Ok-clause-keeps
returns-in-Ok-clause-keeps c = λ is.
    inr (
      _,
      in_this_year c.in-Ok.ensures.reads c.args.year c.ranges.year (λ date y is. is.1),
      c.printed_anew.ensures.keeps is,
    )

pub returns-in-Err-Invalid-clause-keeps : goal.returns-in-Err-Invalid-clause-keeps
returns-in-Err-Invalid-clause-keeps c = λ is.
    inl (
      in_this_year (rw c.in-Err-Invalid.field-0-is at c.in-Err-Invalid.ensures.reads) c.args.year c.ranges.year
          (λ date y is. is.1),
      tt,
    )
