use Rattle.syslog_c.proofs.Words.{inr, in_year_map, in_year_told, rules}
use Rattle.syslog_c.proofs.LineLemmas.{not_text, tried_line}
use Rattle.syslog_c.proofs.TextLemmas.{settled_answer}
use Rattle.syslog_c.proofs.printed.write_settled.Goals as goal

pub returns-in_default : goal.returns-in_default
returns-in_default c =
    not_text _ _ _ _ (c.take.ensures.taken c.if-not-take.false) c.in_default.ensures (search rules) (search rules)

pub returns : goal.returns
returns c =
    let holds = in_year_map (λ year s. settled_answer _ _ _ _ _ _ _ _ s c.put_answer.ensures)
    c.settle-settled.ensures.settles in
    inr (inr (tried_line _ _ _ _ _ (c.take.ensures.taken c.if-not-take.false) c.in-Ok.ensures
    (in_year_told holds (λ date y is. search (rules, is)))))
