use Rattle.syslog_loose.proofs.{Names.⊤, Names.chars, Names.dating_of, ReadingLemmas.in_year_map}
use Rattle.syslog_loose.proofs.SettlingLemmas.Settles.{made_answer, reached_none}
use Rattle.syslog_loose.proofs.rounds.next_round.Goals as goal

pub returns : goal.returns
returns g c =
    let whole = chars c.args.input.now in
    rw c.answer.ensures (in_year_map (λ year h. let dating = dating_of year c.args.tz c.args.local in
    made_answer c.args.variant dating (λ first visitor es. ⊤) _ _ whole 0 5 whole _ _ c.visit_line-made.result
    (reached_none c.args.variant dating whole) (λ m s. tt) h) c.visit_line-made.ensures)
