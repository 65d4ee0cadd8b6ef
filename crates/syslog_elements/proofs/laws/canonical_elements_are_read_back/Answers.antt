use Rattle.syslog_elements.proofs.StructuredDataLemmas.Elements.{forgiving_back, forgiving_canonical}
use Rattle.syslog_elements.proofs.laws.canonical_elements_are_read_back.Goals as goal

pub returns-clause-back : goal.returns-clause-back
returns-clause-back c = forgiving_back

pub returns-clause-only : goal.returns-clause-only
returns-clause-only c = forgiving_canonical
