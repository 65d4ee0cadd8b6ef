use Rattle.syslog_sent.proofs.led.read_front.Goals as goal

pub returns-in_err-date : goal.returns-in_err-date
returns-in_err-date c = rw c.from_residual.ensures
    (record { begun = _; gap = c.blanks-begun.ensures; undated = c.in_err-date.ensures })

pub returns : goal.returns
returns c = record { gap = c.blanks-begun.ensures; date = c.in_ok-date.ensures; sent = c.sent.ensures }
