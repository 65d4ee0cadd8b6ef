use Rattle.syslog_named_forms.proofs.Names.{[], here}
use Rattle.syslog_named_forms.specs.Monotonic.{monotonic_form}
use Rattle.syslog_named_forms.proofs.named_forms.of_seconds.Goals as goal

pub returns-in_err-sent : goal.returns-in_err-sent
returns-in_err-sent c = rw c.from_residual.ensures (c.in_err-sent.ensures, tt)

pub returns : goal.returns
returns c = here monotonic_form [] _ _ c.in_ok-sent.ensures
