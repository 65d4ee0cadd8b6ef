use Rattle.syslog_loose.proofs.Names.{⊤, chars, suc}
use Rattle.syslog_loose.proofs.SettlingLemmas.Settles.{made_answer, without_date}
use Rattle.syslog_loose.proofs.rounds.later_round.Goals as goal

pub returns : goal.returns
returns c = λ dating first rank r.
    let whole = chars c.args.input.now in
    let f = rw c.trimmed.ensures at c.optional_priority-priority.ensures in
    rw c.answer.ensures (made_answer c.args.variant dating (λ first visitor es. ⊤) _ _ first (suc r.before) rank
    whole _ _
    c.visit_undated-made.result r.reaches r.ranked (c.visit_undated-made.ensures whole f
    (without_date c.args.variant dating first r.before whole r.reaches f) dating))
