use Rattle.syslog_elements.proofs.StructuredDataLemmas.Units.{unescaped_one}
use Rattle.syslog_elements.proofs.laws.text_is_unescaped_once.Goals as goal

pub returns : goal.returns
returns c text unescaped other i j = unescaped_one text unescaped other i j
