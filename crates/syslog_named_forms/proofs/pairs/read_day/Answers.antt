use Rattle.syslog_named_forms.proofs.Names.{◌past◌, ◌then◌, day_row, inl, no_row, refl, row_of}
use Rattle.syslog_named_forms.proofs.PairLemmas.{day_det}
use Rattle.syslog_named_forms.proofs.pairs.read_day.Goals as goal

pub returns-in_err-year : goal.returns-in_err-year
returns-in_err-year c = rw c.from_residual.ensures (no_row day_row day_det (inl c.in_err-year.ensures))

pub returns-in_err-month : goal.returns-in_err-month
returns-in_err-month c = rw c.from_residual-in_err-month.ensures
    (no_row day_row day_det (c.in_ok-year.ensures past inl c.in_err-month.ensures))

pub returns-in_err-day : goal.returns-in_err-day
returns-in_err-day c = rw c.from_residual-in_err-day.ensures
    (no_row day_row day_det (c.in_ok-year.ensures past c.in_ok-month.ensures past inl c.in_err-day.ensures))

pub returns : goal.returns
returns c = row_of day_row (c.in_ok-year.ensures then c.in_ok-month.ensures then c.in_ok-day.ensures then refl)
