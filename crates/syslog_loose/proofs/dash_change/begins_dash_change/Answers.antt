use Rattle.syslog_loose.proofs.Names.{◌∷◌, [], refl}
use Rattle.syslog_loose.proofs.dash_change.begins_dash_change.Goals as goal

pub returns-in_default : goal.returns-in_default
returns-in_default c = λ h. c.in_default.ensures (45 ∷ []) (h.next ∷ h.after) tt h.is refl
