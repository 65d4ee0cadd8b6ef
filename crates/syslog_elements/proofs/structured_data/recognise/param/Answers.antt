use Rattle.syslog_elements.proofs.Names.{meets_none}
use Rattle.syslog_elements.proofs.StructuredDataLemmas.Closing.{no_opening, param_opens, param_read}
use Rattle.syslog_elements.proofs.structured_data.recognise.param.Goals as goal

pub returns-in_err-name : goal.returns-in_err-name
returns-in_err-name c = rw c.from_residual.ensures (no_opening c.in_err-name.ensures)

pub returns-in_err-value : goal.returns-in_err-value
returns-in_err-value c =
    rw c.from_residual-in_err-value.ensures
    (meets_none _ _ _ _ (param_opens c.in_ok-name.ensures.0) c.in_err-value.ensures)

pub returns : goal.returns
returns c = param_read c.in_ok-name.ensures.0 c.in_ok-value.ensures
