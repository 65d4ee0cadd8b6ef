use Rattle.syslog_c.proofs.Words.{inr, refl, rules, NoReading, in_year_map}
use Rattle.syslog_c.proofs.LineLemmas.{not_text, tried_line}
use Rattle.syslog_c.proofs.SentLemmas.{only_meant}
use Rattle.syslog_c.specs.Sent.{RefusesSent}
use Rattle.syslog_c.proofs.read_line.read_sent_line.Goals as goal

pub returns-in_default : goal.returns-in_default
returns-in_default c =
    not_text _ _ _ _ (c.take.ensures.taken c.if-not-take.false) c.in_default.ensures (search rules) (search rules)

pub returns-in-Some : goal.returns-in-Some
returns-in-Some c = tried_line _ _ _ _ _ (c.take.ensures.taken c.if-not-take.false) c.in-Ok.ensures
    (in_year_map (λ year read. (refl, only_meant _ _ _ _ _ read, c.in-Some.ensures.leaves))
    c.in-Some.ensures.reads)

pub returns-in-None : goal.returns-in-None
returns-in-None c =
    inr (inr (tried_line (λ rules dating text. RefusesSent rules dating text NoReading) _ _ _ _
    (c.take.ensures.taken c.if-not-take.false) c.in-Ok.ensures
    (in_year_map (λ year none. (refl, none)) c.in-None.ensures.reads)))
