use Rattle.syslog_pieces.proofs.TimestampLemmas.MonthDate.{shown_once}
use Rattle.syslog_pieces.proofs.laws.text_shows_one_date.Goals as goal

pub returns : goal.returns
returns c = shown_once
