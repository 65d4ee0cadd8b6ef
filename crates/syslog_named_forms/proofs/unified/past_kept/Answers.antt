use Rattle.syslog_named_forms.proofs.Names.{kept_row, optional_some, Row, Some}
use Rattle.syslog_named_forms.proofs.unified.past_kept.Goals as goal

pub returns-in-Some : goal.returns-in-Some
returns-in-Some c = let (v, f) = c.in-Some.ensures in (Some v, optional_some (Row kept_row) f)
