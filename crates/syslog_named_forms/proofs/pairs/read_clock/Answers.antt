use Rattle.syslog_named_forms.proofs.Names.{◌past◌, ◌then◌, clock_row, inl, no_row, refl, row_of}
use Rattle.syslog_named_forms.proofs.PairLemmas.{clock_det}
use Rattle.syslog_named_forms.proofs.pairs.read_clock.Goals as goal

pub returns-in_err-hour : goal.returns-in_err-hour
returns-in_err-hour c = rw c.from_residual.ensures (no_row clock_row clock_det (inl c.in_err-hour.ensures))

pub returns-in_err-minute : goal.returns-in_err-minute
returns-in_err-minute c = rw c.from_residual-in_err-minute.ensures
    (no_row clock_row clock_det (c.in_ok-hour.ensures past inl c.in_err-minute.ensures))

pub returns-in_err-second : goal.returns-in_err-second
returns-in_err-second c = rw c.from_residual-in_err-second.ensures
    (no_row clock_row clock_det (c.in_ok-hour.ensures past c.in_ok-minute.ensures past inl c.in_err-second.ensures))

pub returns : goal.returns
returns c = row_of clock_row (c.in_ok-hour.ensures then c.in_ok-minute.ensures then c.in_ok-second.ensures
    then c.optional_fraction-nanosecond.ensures then refl)
