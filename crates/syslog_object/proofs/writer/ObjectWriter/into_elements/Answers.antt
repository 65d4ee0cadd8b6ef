use Rattle.syslog_object.proofs.Names.{◌∙◌, list_elements}
use Rattle.syslog_object.proofs.ElementsLemmas.{text_of_structured}
use Rattle.syslog_object.proofs.writer.ObjectWriter.into_elements.Goals as goal

pub returns : goal.returns
returns c = text_of_structured (list_elements c.args.list.now) _ (c.into_bytes.ensures ∙ c.in_ok-close.ensures)
