use Rattle.syslog_c.proofs.Words.{◌∙◌, ap, arith, slice_get}
use Rattle.syslog_pieces.specs.Pri.{severities}
use Rattle.syslog_c.proofs.names.severity_at.Goals as goal

pub returns : goal.returns
returns c = c.decompose_pri.ensures.severity ∙ ap (slice_get severities) (omega (arith, c.if-number-ge8.false))
