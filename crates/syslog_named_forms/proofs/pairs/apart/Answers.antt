use Rattle.syslog_named_forms.proofs.pairs.apart.Goals as goal

pub returns-in_err-day : goal.returns-in_err-day
returns-in_err-day c = rw c.from_residual.ensures (λ d (day, clock, a, b, e). c.in_err-day.ensures day a)

pub returns-in_err-clock : goal.returns-in_err-clock
returns-in_err-clock c = rw c.from_residual-in_err-clock.ensures (λ d (day, clock, a, b, e). c.in_err-clock.ensures
    clock b)

pub returns : goal.returns
returns c = (_, _, c.in_ok-day.ensures, c.in_ok-clock.ensures, c.date_at.ensures)
