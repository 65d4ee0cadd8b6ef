use Rattle.syslog_dated_forms.proofs.Names.{arith, IsLate, no_such_front, no_such_meaning, number, number_det}
use Rattle.syslog_dated_forms.proofs.Names.{such_front}
use Rattle.syslog_dated_forms.proofs.unix_seconds.seconds.Goals as goal

pub returns-in_err-seconds : goal.returns-in_err-seconds
returns-in_err-seconds c = rw c.from_residual.ensures (no_such_front (number 4294967295) IsLate
    c.in_err-seconds.ensures)

pub returns-then-seconds-lt1000000000 : goal.returns-then-seconds-lt1000000000
returns-then-seconds-lt1000000000 c = no_such_meaning (number 4294967295) IsLate (number_det 4294967295)
    c.in_ok-seconds.ensures
    (λ h. omega (arith, c.if-seconds-lt1000000000.true))

pub returns : goal.returns
returns c = such_front (number 4294967295) IsLate c.in_ok-seconds.ensures
    (omega (arith, c.if-seconds-lt1000000000.false))
