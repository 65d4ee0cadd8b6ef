use Rattle.syslog_pieces.proofs.Names.{◌past◌, rules, day_row, row_of, no_row}
use Rattle.syslog_pieces.proofs.TimestampLemmas.MonthDate.{day_det}
use Rattle.syslog_pieces.proofs.timestamp.month_date.read_day.Goals as goal

pub returns-in_err-month : goal.returns-in_err-month
returns-in_err-month c = rw c.from_residual.ensures (no_row day_row day_det (search rules))

pub returns-in_err-rest : goal.returns-in_err-rest
returns-in_err-rest c = rw c.from_residual-in_err-rest.ensures (no_row day_row day_det (search rules))

pub returns-in_err-day : goal.returns-in_err-day
returns-in_err-day c =
    rw c.from_residual-in_err-day.ensures (no_row day_row day_det (c.in_ok-month.ensures past (search rules)))

pub returns-in_err-rest-2 : goal.returns-in_err-rest-2
returns-in_err-rest-2 c =
    rw c.from_residual-in_err-rest-2.ensures (no_row day_row day_det (c.in_ok-month.ensures past
    c.in_ok-rest.ensures past (search rules)))

pub returns : goal.returns
returns c = row_of day_row (search rules)
