use Rattle.syslog_dated_forms.proofs.Names.{◌past◌, ◌then◌, BsdDate, dated_sent, inl, refl, row_of, says_once, year_row}
use Rattle.syslog_dated_forms.proofs.RowLemmas.{year_line_det}
use Rattle.syslog_dated_forms.proofs.ChainLemmas.{undivided}
use Rattle.syslog_dated_forms.proofs.dated.read_year.Goals as goal

pub returns-in_err-date : goal.returns-in_err-date
returns-in_err-date c = rw c.from_residual.ensures (undivided year_row year_line_det (c.blanks.ensures past inl
    c.in_err-date.ensures))

pub returns : goal.returns
returns c = says_once BsdDate year_row (λ v. dated_sent v.1.0 v.1.1.0) year_line_det
    (row_of year_row (c.blanks.ensures then c.in_ok-date.ensures then c.read_wide_tail.ensures then refl))
    c.says.ensures
