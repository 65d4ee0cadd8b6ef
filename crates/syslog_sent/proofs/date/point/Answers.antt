use Rattle.std.proofs.Common.{[], ◌∷◌}
use Rattle.syslog_text.proofs.PieceLemmas.Rules.{first_of, second_of, skips}
use Rattle.syslog_text.specs.Pieces.Class.{exactly}
use Rattle.syslog_sent.proofs.date.point.Goals as goal

pub returns-in-Some : goal.returns-in-Some
returns-in-Some c = first_of c.in-Some.ensures

pub returns-in-None : goal.returns-in-None
returns-in-None c = second_of (exactly (46 ∷ [])) (exactly (44 ∷ [])) c.literal-in-None.result c.in-None.ensures
    (skips 44 _ _ c.literal-in-None.ensures)
