use Rattle.syslog_loose.proofs.{Names.rules, Names.suc, Names.chars, SettlingLemmas.Settles.last_of_all}
use Rattle.syslog_loose.proofs.jumps.last_dash.Goals as goal

pub dashes-preserved : goal.dashes-preserved
dashes-preserved c =
    let (u, v, (n, p), d) = c.dashes.invariant in
    let f = c.in-Some-after_dash.ensures in
    (v, search rules, (suc n, (chars c.dashes.from.now, p, d, (chars c.in-Some-after_dash.next.now), f)), f)

pub returns-in_default-clause-last : goal.returns-in_default-clause-last
returns-in_default-clause-last c = λ p q d e. c.in_default.ensures p d

pub returns-clause-last : goal.returns-clause-last
returns-clause-last c = last_of_all c.dashes.invariant.3 c.in_default-after_dash.ensures
