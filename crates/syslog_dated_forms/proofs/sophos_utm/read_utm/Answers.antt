use Rattle.syslog_dated_forms.proofs.Names.{◌past◌, ◌then◌, dated_sent, inl, refl, row_of, says_once, utm_row}
use Rattle.syslog_dated_forms.proofs.RowLemmas.{utm_row_det}
use Rattle.syslog_sent.specs.declared.dialect.Dialect.TheVariants.{SophosUtm}
use Rattle.syslog_dated_forms.proofs.ChainLemmas.{undivided}
use Rattle.syslog_dated_forms.proofs.sophos_utm.read_utm.Goals as goal

pub returns-in_err-date : goal.returns-in_err-date
returns-in_err-date c = rw c.from_residual.ensures (undivided utm_row utm_row_det (c.blanks.ensures past inl
    c.in_err-date.ensures))

pub returns : goal.returns
returns c = says_once SophosUtm utm_row (λ v. dated_sent v.1.0 v.1.1.0) utm_row_det
    (row_of utm_row (c.blanks.ensures then c.in_ok-date.ensures then c.read_wide_tail.ensures then refl)) c.says.ensures
