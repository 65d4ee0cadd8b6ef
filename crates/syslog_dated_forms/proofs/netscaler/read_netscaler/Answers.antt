use Rattle.syslog_dated_forms.proofs.Names.{◌past◌, ◌then◌, dated_sent, inl, NetScaler, netscaler_row, refl, row_of}
use Rattle.syslog_dated_forms.proofs.Names.{says_once}
use Rattle.syslog_dated_forms.proofs.RowLemmas.{netscaler_row_det}
use Rattle.syslog_dated_forms.proofs.ChainLemmas.{undivided}
use Rattle.syslog_dated_forms.proofs.netscaler.read_netscaler.Goals as goal

pub returns-in_err-date : goal.returns-in_err-date
returns-in_err-date c = rw c.from_residual.ensures (undivided netscaler_row netscaler_row_det (c.blanks.ensures past inl
    c.in_err-date.ensures))

pub returns : goal.returns
returns c = says_once NetScaler netscaler_row (λ v. dated_sent v.1.0 v.1.1.0) netscaler_row_det
    (row_of netscaler_row (c.blanks.ensures then c.in_ok-date.ensures then c.read_wide_tail.ensures then refl))
    c.says.ensures
