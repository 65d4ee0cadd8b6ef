use Rattle.syslog_pieces.proofs.Names.{row_of, ◌then◌, no_row, rules, refl, clock_row, year_row}
use Rattle.syslog_pieces.proofs.Names.{rows_none_here, rows_none_later}
use Rattle.syslog_pieces.proofs.TimestampLemmas.MonthDate.{no_clock, year_det, dated_front}
use Rattle.syslog_pieces.proofs.timestamp.month_date.dated.Goals as goal

pub returns-in_err-year : goal.returns-in_err-year
returns-in_err-year c whole day none =
    rw c.from_residual.ensures (no_clock day none (rows_none_here year_row clock_row (no_row
    year_row year_det (search rules))))

pub returns-in_err-rest : goal.returns-in_err-rest
returns-in_err-rest c whole day none =
    rw c.from_residual-in_err-rest.ensures (no_clock day none (rows_none_here year_row clock_row (no_row
    year_row year_det (search rules))))

pub returns-in_err-clock : goal.returns-in_err-clock
returns-in_err-clock c whole day none =
    rw c.from_residual-in_err-clock.ensures (no_clock day none (rows_none_later year_row clock_row year_det (row_of
    year_row (c.in_ok-year.ensures then c.in_ok-rest.ensures then refl)) c.in_err-clock.ensures))

pub returns : goal.returns
returns c whole day none = rw c.date_of.ensures (dated_front day
    (row_of year_row (search rules)) c.in_ok-clock.ensures.1)
