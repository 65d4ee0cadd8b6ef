use Rattle.syslog_text.proofs.PieceLemmas.Class.{optional_none, optional_some}
use Rattle.syslog_sent.specs.Named.{process_id}
use Rattle.syslog_sent.proofs.named.optional_id.Goals as goal

pub returns-in-Some : goal.returns-in-Some
returns-in-Some c = optional_some process_id c.in-Some.ensures

pub returns-in-None : goal.returns-in-None
returns-in-None c = optional_none process_id c.in-None.ensures
