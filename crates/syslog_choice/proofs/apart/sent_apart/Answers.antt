use Rattle.syslog_loose.proofs.ReadingLemmas.{in_year_map}
use Rattle.syslog_choice.proofs.apart.sent_apart.Goals as goal

pub returns-in-Some : goal.returns-in-Some
returns-in-Some c = in_year_map (λ year of. c.sent_line.ensures.reads _ of) c.in-Some.ensures.reads

pub returns-in-None : goal.returns-in-None
returns-in-None c = in_year_map (λ year none. c.unread_line.ensures.reads _ none) c.in-None.ensures.reads
