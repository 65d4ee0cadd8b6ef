use Rattle.syslog_named_forms.proofs.Names.{[], ◌∷◌, exactly, optional_some, Some}
use Rattle.syslog_named_forms.proofs.pairs.past_comma.Goals as goal

pub returns-in-Some : goal.returns-in-Some
returns-in-Some c = let (v, f) = c.in-Some.ensures in (Some v, optional_some (exactly (44 ∷ [])) f)
