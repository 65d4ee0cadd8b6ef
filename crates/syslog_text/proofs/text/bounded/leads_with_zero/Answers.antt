use Rattle.syslog_text.proofs.Names.{[], ◌∷◌, refl}
use Rattle.syslog_text.proofs.text.bounded.leads_with_zero.Goals as goal

pub returns-in_default : goal.returns-in_default
returns-in_default c = λ (b, more, e, digit). c.in_default.ensures (48 ∷ []) (b ∷ more) tt e refl
