use Rattle.syslog_elements.proofs.StructuredDataLemmas.Pairs.{no_end}
use Rattle.syslog_elements.proofs.structured_data.pairs.pair_end.Goals as goal

pub returns-in_err-literal : goal.returns-in_err-literal
returns-in_err-literal c = rw c.from_residual.ensures (no_end c.in_default.ensures c.in_err-literal.ensures)
