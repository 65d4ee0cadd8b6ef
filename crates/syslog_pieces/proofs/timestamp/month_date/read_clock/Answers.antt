use Rattle.syslog_pieces.proofs.Names.{◌past◌, rules, clock_row, row_of, no_row}
use Rattle.syslog_pieces.proofs.TimestampLemmas.MonthDate.{clock_det}
use Rattle.syslog_pieces.proofs.timestamp.month_date.read_clock.Goals as goal

pub returns-in_err-hour : goal.returns-in_err-hour
returns-in_err-hour c = rw c.from_residual.ensures (no_row clock_row clock_det (search rules))

pub returns-in_err-rest : goal.returns-in_err-rest
returns-in_err-rest c = rw c.from_residual-in_err-rest.ensures (no_row clock_row clock_det (search rules))

pub returns-in_err-minute : goal.returns-in_err-minute
returns-in_err-minute c = rw c.from_residual-in_err-minute.ensures (no_row clock_row clock_det (search rules))

pub returns-in_err-rest-2 : goal.returns-in_err-rest-2
returns-in_err-rest-2 c =
    rw c.from_residual-in_err-rest-2.ensures (no_row clock_row clock_det (c.in_ok-hour.ensures past (search rules)))

pub returns-in_err-second : goal.returns-in_err-second
returns-in_err-second c =
    rw c.from_residual-in_err-second.ensures (no_row clock_row clock_det (c.in_ok-hour.ensures past
    c.in_ok-rest.ensures past (search rules)))

pub returns : goal.returns
returns c = (c.past_colon.ensures.0, row_of clock_row (search rules))
