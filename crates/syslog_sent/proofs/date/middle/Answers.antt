use Rattle.std.proofs.Common.{[], ◌∷◌}
use Rattle.syslog_text.proofs.PieceLemmas.Class.{match_map, mapped_front, no_mapped}
use Rattle.syslog_text.proofs.PieceLemmas.Rules.{first_of, second_of, skips}
use Rattle.syslog_text.specs.Pieces.Class.{exactly}
use Rattle.syslog_text.specs.Pieces.Rules.{◌or◌}
use Rattle.syslog_sent.proofs.date.middle.Goals as goal

pub returns-in-Some : goal.returns-in-Some
returns-in-Some c = mapped_front (exactly (84 ∷ []) or exactly (32 ∷ [])) (Unit {0}) (λ _. tt)
    (first_of c.in-Some.ensures).1

pub returns-in-None : goal.returns-in-None
returns-in-None c = match_map c.literal-in-None.result
    (λ n. no_mapped (exactly (84 ∷ []) or exactly (32 ∷ [])) (Unit {0}) (λ _. tt) n)
    (λ q (v, f). mapped_front (exactly (84 ∷ []) or exactly (32 ∷ [])) (Unit {0}) (λ _. tt) f)
    (second_of (exactly (84 ∷ [])) (exactly (32 ∷ [])) c.literal-in-None.result c.in-None.ensures
    (skips 32 _ _ c.literal-in-None.ensures))
