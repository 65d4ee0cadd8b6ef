use Rattle.syslog_elements.proofs.{Names.meets_here, Names.quoted, StructuredDataLemmas.Closing.value_missing}
use Rattle.syslog_elements.proofs.structured_data.recognise.live_value.Goals as goal

pub returns-in-None : goal.returns-in-None
returns-in-None c = value_missing _ _ (meets_here quoted _) c.in-None.ensures
