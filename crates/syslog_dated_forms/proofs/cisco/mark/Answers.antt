use Rattle.syslog_dated_forms.proofs.Names.{[], ◌∷◌, exactly}
use Rattle.syslog_text.proofs.PieceLemmas.Rules.{first_of, second_of, skips}
use Rattle.syslog_dated_forms.proofs.cisco.mark.Goals as goal

pub returns-in-Some : goal.returns-in-Some
returns-in-Some c = first_of c.in-Some.ensures

pub returns-in-None : goal.returns-in-None
returns-in-None c = second_of (exactly (42 ∷ [])) (exactly (46 ∷ [])) c.literal-in-None.result c.in-None.ensures
    (skips 46 _ _ c.literal-in-None.ensures)
