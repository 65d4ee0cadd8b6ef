use Rattle.syslog_loose.proofs.ReadBackLemmas.{printed_shows_none}
use Rattle.syslog_loose.proofs.laws.rounds.printed_text_shows_no_month_date.Goals as goal

pub returns : goal.returns
returns c = λ m bounded date shown. printed_shows_none m bounded date shown
