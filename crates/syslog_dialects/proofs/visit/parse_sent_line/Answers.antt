use Rattle.syslog_dialects.proofs.Names.{match_map, refl}
use Rattle.syslog_loose.proofs.ReadingLemmas.{in_year_map, in_year_told}
use Rattle.syslog_dialects.proofs.visit.parse_sent_line.Goals as goal

pub returns-in-Some-clause-reads : goal.returns-in-Some-clause-reads
returns-in-Some-clause-reads c =
    in_year_told (in_year_map (λ year of. c.sent_line.ensures.reads _ of) c.in-Some.ensures.reads) (λ date y is. is.1)

pub returns-in-Some-clause-leaves : goal.returns-in-Some-clause-leaves
returns-in-Some-clause-leaves c =
    let of = c.in-Some.ensures.reads in
    match_map c.sent_line.result (λ none. none)
    (λ it leaves unparsed left. leaves _ unparsed (of.holds of.answered (λ date asks. refl)) left)
    c.sent_line.ensures.leaves

pub returns-in-None-clause-reads : goal.returns-in-None-clause-reads
returns-in-None-clause-reads c =
    in_year_told (in_year_map (λ year none. c.unread_line.ensures.reads _ none) c.in-None.ensures.reads)
    (λ date y is. is.1)
