use Rattle.std.proofs.Common.{inl, inr, refl}
use Rattle.std.proofs.lemmas.Result.{IfOk-weaker}
use Rattle.syslog_loose.proofs.ReadingLemmas.{in_this_year}
use Rattle.syslog_tests.proofs.tests.callers.normaliser.normal_line.Goals as goal

pub returns-in-Ok-clause-prints : goal.returns-in-Ok-clause-prints
returns-in-Ok-clause-prints c = inr (in_this_year c.in-Ok.ensures.reads c.args.year c.ranges.year (λ date y is. is.1))

pub returns-in-Err-Invalid-clause-prints : goal.returns-in-Err-Invalid-clause-prints
returns-in-Err-Invalid-clause-prints c =
    let unread =
    (in_this_year (rw c.in-Err-Invalid.field-0-is at c.in-Err-Invalid.ensures.reads) c.args.year c.ranges.year
    (λ date y is. is.1)).0 refl in
    IfOk-weaker c.from_str.result _ _ (λ text same. inl (unread, same)) c.from_str.ensures.ok
