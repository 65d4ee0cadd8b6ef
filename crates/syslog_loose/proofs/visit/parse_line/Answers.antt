use Rattle.syslog_loose.proofs.{Names.refl, ReadingLemmas.in_year_map}
use Rattle.syslog_text.proofs.PieceLemmas.Class.{match_map}
use Rattle.syslog_loose.proofs.visit.parse_line.Goals as goal

pub returns-clause-reads : goal.returns-clause-reads
returns-clause-reads g c = in_year_map (λ year. match_map c.visit_line.result (λ none. none.0)
    (λ made of. rw of.2.0 of.1)) c.visit_line.ensures

pub returns-clause-form : goal.returns-clause-form
returns-clause-form g c =
    let in_year = c.visit_line.ensures in
    match_map c.visit_line.result (λ none. tt) (λ made of. rw of.2.0 of.2.1)
    (in_year.holds in_year.answered (λ date asks. refl))
