use Rattle.syslog_c.proofs.Words.{inr, refl, rules, NoReading, in_year_map, in_year_told}
use Rattle.syslog_c.proofs.LineLemmas.{not_text, tried_line}
use Rattle.syslog_c.specs.Line.{Refuses}
use Rattle.syslog_c.proofs.read_line.read_line.Goals as goal

pub returns-in_default : goal.returns-in_default
returns-in_default c =
    not_text _ _ _ _ (c.take.ensures.taken c.if-not-take.false) c.in_default.ensures (search rules) (search rules)

pub returns-in-Some : goal.returns-in-Some
returns-in-Some c = tried_line _ _ _ _ _ (c.take.ensures.taken c.if-not-take.false) c.in-Ok.ensures
    (in_year_told (in_year_map (λ year of. (refl, of.only)) c.in-Some.ensures.reads) (λ date y is. search (rules, is)))

pub returns-in-None : goal.returns-in-None
returns-in-None c =
    inr (inr (tried_line (λ rules dating text. Refuses rules.variant dating text NoReading) _ _ _ _
    (c.take.ensures.taken c.if-not-take.false) c.in-Ok.ensures
    (in_year_told (in_year_map (λ year none. (refl, none)) c.in-None.ensures.reads) (λ date y is. search (rules, is)))))
