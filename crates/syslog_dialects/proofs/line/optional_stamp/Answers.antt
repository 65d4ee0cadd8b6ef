use Rattle.syslog_dialects.proofs.Names.{refl}
use Rattle.syslog_dialects.proofs.line.optional_stamp.Goals as goal

pub returns-in_ok-stamp_of-in-Some : goal.returns-in_ok-stamp_of-in-Some
returns-in_ok-stamp_of-in-Some c = rw c.in-Some.is (_, refl, c.in_ok-stamp_of-in-Some.ensures)

pub returns-in_err-stamp_of-in-Some : goal.returns-in_err-stamp_of-in-Some
returns-in_err-stamp_of-in-Some c =
    rw (c.from_residual.ensures, c.in-Some.is) (λ stamp has. c.in_err-stamp_of-in-Some.ensures has.0 has.2)
