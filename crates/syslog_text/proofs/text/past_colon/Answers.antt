use Rattle.syslog_text.proofs.Names.{Some, exactly, colon, optional_some}
use Rattle.syslog_text.proofs.text.past_colon.Goals as goal

pub returns-in-Some : goal.returns-in-Some
returns-in-Some c = (Some tt, optional_some (exactly colon) c.in-Some.ensures)
