use Rattle.syslog_pieces.proofs.Names.{rules}
use Rattle.syslog_pieces.proofs.TimestampLemmas.MonthDate.{no_day, yearless_front}
use Rattle.syslog_pieces.proofs.timestamp.month_date.month_date.Goals as goal

pub returns-in_err-day : goal.returns-in_err-day
returns-in_err-day c = let n = no_day c.in_err-day.ensures in search rules

pub returns-in-Some : goal.returns-in-Some
returns-in-Some c = rw c.date_of.ensures (yearless_front c.in_ok-day.ensures c.in-Some.ensures.1)
