use Rattle.syslog_dated_forms.proofs.Names.{◌past◌, cisco_row, date_row, inl, no_row, refl}
use Rattle.syslog_dated_forms.proofs.CiscoLemmas.{cisco_row_det, date_row_det, dated_here}
use Rattle.syslog_dated_forms.proofs.cisco.shown_from.Goals as goal

pub returns-then-are_one_end : goal.returns-then-are_one_end
returns-then-are_one_end c gap date = c.shown_after.ensures _ (dated_here gap date c.start.ensures
    c.optional_front_year-year.ensures (c.if-are_one_end.ensures refl))

pub returns-in_err-date : goal.returns-in_err-date
returns-in_err-date c gap date = rw c.from_residual.ensures (no_row cisco_row cisco_row_det (c.start.ensures past inl
    (no_row date_row date_row_det (c.optional_front_year-year.ensures past inl c.in_err-date.ensures))))

pub returns : goal.returns
returns c gap date = c.shown_after-2.ensures _ (record {
  started = _;
  at_date = _;
  front = c.start.ensures;
  year = c.optional_front_year-year.ensures;
  dated = c.in_ok-date.ensures;
})
