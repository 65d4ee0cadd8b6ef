use Rattle.syslog_text.proofs.TextLemmas.Runs.{class_run}
use Rattle.syslog_text.proofs.text.lanes.class_run.Goals as goal

pub returns : goal.returns
returns c = class_run c.bytes_of.ensures c.type_inv.bytes c.set_run.ensures
