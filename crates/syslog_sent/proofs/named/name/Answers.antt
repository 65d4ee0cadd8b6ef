use Rattle.syslog_sent.proofs.NamedLemmas.{begins_some, such_run, no_such_run}
use Rattle.syslog_sent.specs.Named.{BeginsWith, begins_name}
use Rattle.syslog_text.specs.Text.CharClass.{is_label_char}
use Rattle.syslog_sent.proofs.named.name.Goals as goal

pub returns-then-is_name : goal.returns-then-is_name
returns-then-is_name c = such_run is_label_char (BeginsWith begins_name) c.split_run.ensures
    (begins_some begins_name _ c.if-is_name.ensures) c.if-is_name.ensures

pub returns-else-is_name : goal.returns-else-is_name
returns-else-is_name c = no_such_run is_label_char (BeginsWith begins_name) c.split_run.ensures c.if-is_name.ensures
