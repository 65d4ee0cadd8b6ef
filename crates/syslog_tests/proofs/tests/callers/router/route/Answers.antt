use Rattle.std.proofs.Common.{inl, inr, refl}
use Rattle.syslog_loose.proofs.ReadingLemmas.{in_this_year}
use Rattle.syslog_tests.proofs.tests.callers.router.route.Goals as goal

pub returns-in-Some : goal.returns-in-Some
returns-in-Some c =
    let sent = c.destination_of.ensures in
    let of = in_this_year c.in-Some.ensures.reads c.args.year c.ranges.year (λ date y is. is.1) in
    inr (_, of.only, (rw c.severity.ensures at sent.pager, rw c.severity.ensures at sent.gateway, sent.some))

pub returns-in-None : goal.returns-in-None
returns-in-None c = inl (in_this_year c.in-None.ensures.reads c.args.year c.ranges.year (λ date y is. is.1), refl)
