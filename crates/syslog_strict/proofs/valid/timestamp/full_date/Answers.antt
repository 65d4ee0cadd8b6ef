use Rattle.syslog_strict.proofs.Words.{inl, refl}
use Rattle.syslog_text.proofs.PieceLemmas.Class.{◌past◌, ◌then◌, no_row, row_of, row_det}
use Rattle.syslog_text.proofs.PieceLemmas.Rules.{no_such_front, such_reads}
use Rattle.syslog_text.specs.Pieces.Class.{Row}
use Rattle.syslog_strict.proofs.GrammarLemmas.{date_det}
use Rattle.syslog_strict.specs.Grammar.{IsDate, date_row}
use Rattle.syslog_strict.proofs.valid.timestamp.full_date.Goals as goal

pub returns-in_err-month : goal.returns-in_err-month
returns-in_err-month c = rw c.from_residual-in_err-month.ensures (no_such_front (Row date_row) IsDate
    (no_row date_row date_det (c.in_ok-year.ensures past inl c.in_err-month.ensures)))

pub returns-in_err-day : goal.returns-in_err-day
returns-in_err-day c = rw c.from_residual-in_err-day.ensures (no_such_front (Row date_row) IsDate
    (no_row date_row date_det (c.in_ok-year.ensures past c.in_ok-month.ensures past inl c.in_err-day.ensures)))

pub returns : goal.returns
returns c = such_reads (Row date_row) IsDate (row_det date_row date_det) _ _ _ (row_of date_row (c.in_ok-year.ensures
    then c.in_ok-month.ensures then c.in_ok-day.ensures then refl)) c.is_date.ensures c.then_some.ensures
