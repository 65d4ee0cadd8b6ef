use Rattle.syslog_loose.proofs.DashChangeLemmas.{differs_so, unchanged_unread}
use Rattle.syslog_loose.proofs.ReadingLemmas.{in_year_map}
use Rattle.syslog_loose.proofs.dash_change.reads_differently.Goals as goal

pub returns-in-None-clause-drops : goal.returns-in-None-clause-drops
returns-in-None-clause-drops g c =
    in_year_map (λ year none. ((λ t. cc), (λ d. absurd (unchanged_unread _ _ _ none d)))) c.in-None.ensures.reads

pub returns-in-None-clause-reads : goal.returns-in-None-clause-reads
returns-in-None-clause-reads g c = in_year_map (λ year h. differs_so _ _ _ _ h) (returns-in-None-clause-drops g c)

pub returns-in-Some-clause-drops : goal.returns-in-Some-clause-drops
returns-in-Some-clause-drops g c = in_year_map (λ year of. c.has_dash_change.ensures _ _ _ of) c.in-Some.ensures.reads

pub returns-in-Some-clause-reads : goal.returns-in-Some-clause-reads
returns-in-Some-clause-reads g c = in_year_map (λ year h. differs_so _ _ _ _ h) (returns-in-Some-clause-drops g c)
