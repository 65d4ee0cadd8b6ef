use Rattle.syslog_named_forms.proofs.Names.{first_front, inl, inr, match_map, no_otherwise, second_front}
use Rattle.syslog_named_forms.proofs.programs.later_word.Goals as goal

pub returns-in-Some-clause-reads : goal.returns-in-Some-clause-reads
returns-in-Some-clause-reads c = let (v, f) = c.in-Some.ensures.reads in (inl v, first_front f)

pub returns-clause-reads : goal.returns-clause-reads
returns-clause-reads c = match_map c.enclosed.result (λ n. no_otherwise c.in_default.ensures.reads n)
    (λ x (v, f). (inr v, second_front c.in_default.ensures.reads f)) c.enclosed.ensures.reads
