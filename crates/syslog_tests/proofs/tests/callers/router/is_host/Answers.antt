use Rattle.std.proofs.Common.{Some, ap}
use Rattle.syslog_tests.proofs.tests.callers.router.is_host.Goals as goal

pub returns-in-Some : goal.returns-in-Some
returns-in-Some c =
    rw c.in-Some.is ((λ h. ap Some (c.is_named.ensures.0 h)), (λ same. c.is_named.ensures.1 (cc)))
