use Rattle.syslog_elements.proofs.Names.{escaped}
use Rattle.syslog_elements.proofs.StructuredDataLemmas.Units.{escaped_there, unescaped_one}
use Rattle.syslog_elements.proofs.laws.escapes_are_removed.Goals as goal

pub returns-clause-one : goal.returns-clause-one
returns-clause-one c text other i = unescaped_one (escaped text) other text i (escaped_there text)
