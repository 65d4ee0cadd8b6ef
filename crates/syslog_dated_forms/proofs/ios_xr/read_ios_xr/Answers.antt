use Rattle.syslog_dated_forms.proofs.Names.{◌past◌, ◌then◌, date_row, inl, no_row, refl, row_of, says_once, xr_row}
use Rattle.syslog_dated_forms.specs.IosXr.{xr_sent}
use Rattle.syslog_dated_forms.proofs.CiscoLemmas.{date_row_det}
use Rattle.syslog_dated_forms.proofs.RowLemmas.{xr_row_det}
use Rattle.syslog_sent.specs.declared.dialect.Dialect.TheVariants.{CiscoIosXr}
use Rattle.syslog_dated_forms.proofs.ChainLemmas.{undivided}
use Rattle.syslog_dated_forms.proofs.ios_xr.read_ios_xr.Goals as goal

pub returns-in_err-host : goal.returns-in_err-host
returns-in_err-host c = rw c.from_residual.ensures (undivided xr_row xr_row_det (inl c.in_err-host.ensures))

pub returns-in_err-date : goal.returns-in_err-date
returns-in_err-date c = rw c.from_residual-in_err-date.ensures (undivided xr_row xr_row_det (c.in_ok-host.ensures
    past inl (no_row date_row date_row_det (c.optional_front_year-year.ensures past inl c.in_err-date.ensures))))

pub returns-in_err-shown : goal.returns-in_err-shown
returns-in_err-shown c = rw c.from_residual-in_err-shown.ensures (undivided xr_row xr_row_det (c.in_ok-host.ensures
    past row_of date_row (c.optional_front_year-year.ensures then c.in_ok-date.ensures then refl) past inl
    c.in_err-shown.ensures))

pub returns : goal.returns
returns c = says_once CiscoIosXr xr_row xr_sent xr_row_det (row_of xr_row (c.in_ok-host.ensures
    then row_of date_row (c.optional_front_year-year.ensures then c.in_ok-date.ensures then refl) then
    c.in_ok-shown.ensures then refl))
    (rw c.dated_in.ensures refl)
