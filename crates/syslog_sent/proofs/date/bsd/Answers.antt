use Rattle.std.proofs.Common.{inl, refl}
use Rattle.syslog_text.proofs.PieceLemmas.Class.{◌then◌, no_row, row_of}
use Rattle.syslog_sent.specs.Date.{bsd_row}
use Rattle.syslog_sent.proofs.DateLemmas.{bsd_det}
use Rattle.syslog_sent.proofs.date.bsd.Goals as goal

pub returns-in_err-date : goal.returns-in_err-date
returns-in_err-date c = rw c.from_residual.ensures (no_row bsd_row bsd_det (inl c.in_err-date.ensures))

pub returns : goal.returns
returns c = row_of bsd_row (c.in_ok-date.ensures then c.optional_late_fraction-nanosecond.ensures then
    c.optional_zone-zone.ensures
    then c.optional_year-year.ensures then refl)
