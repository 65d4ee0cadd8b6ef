use Rattle.syslog_named_forms.proofs.Names.{◌past◌, ◌then◌, host_row, inl, no_row, refl, row_of}
use Rattle.syslog_named_forms.proofs.RowLemmas.{host_row_det}
use Rattle.syslog_named_forms.proofs.hosts.past_host.Goals as goal

pub returns-in_err-hostname : goal.returns-in_err-hostname
returns-in_err-hostname c = rw c.from_residual.ensures (no_row host_row host_row_det (inl c.in_err-hostname.ensures))

pub returns-in_err-text : goal.returns-in_err-text
returns-in_err-text c = rw c.from_residual-in_err-text.ensures (no_row host_row host_row_det
    (c.in_ok-hostname.ensures past inl c.in_err-text.ensures))

pub returns : goal.returns
returns c = row_of host_row (c.in_ok-hostname.ensures then c.in_ok-text.ensures then refl)
