use Rattle.syslog_elements.proofs.StructuredDataLemmas.Walk.{no_list_is}
use Rattle.syslog_elements.proofs.laws.list_begins_with_dash_or_element.Goals as goal

pub returns : goal.returns
returns c = no_list_is
