use Rattle.syslog_named_forms.proofs.Names.{first_front, inr, match_map, no_otherwise, second_front}
use Rattle.syslog_named_forms.proofs.programs.grade.Goals as goal

pub returns-in-Some : goal.returns-in-Some
returns-in-Some c = (_, first_front c.in-Some.ensures)

pub returns : goal.returns
returns c = match_map c.pair.result (λ n. no_otherwise c.in_default.ensures n)
    (λ x (v, f). (inr v, second_front c.in_default.ensures f)) c.pair.ensures
