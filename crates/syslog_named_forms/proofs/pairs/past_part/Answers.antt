use Rattle.syslog_named_forms.proofs.Names.{optional_some, part_row, Row, Some}
use Rattle.syslog_named_forms.proofs.pairs.past_part.Goals as goal

pub returns-in-Some : goal.returns-in-Some
returns-in-Some c = let (v, f) = c.in-Some.ensures in (Some v, optional_some (Row part_row) f)
