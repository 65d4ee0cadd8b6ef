use Rattle.syslog_loose.proofs.Names.{◌∷◌, ◌++◌, [], refl, chars}
use Rattle.syslog_loose.proofs.SettlingLemmas.Settles.{dash_told}
use Rattle.syslog_loose.proofs.jumps.after_dash.Goals as goal

pub returns-in_err-literal : goal.returns-in_err-literal
returns-in_err-literal c =
    rw c.from_residual.ensures (λ rest d. c.in_err-literal.ensures (45 ∷ []) (d.blanks ++ rest) tt d.whole refl)

pub returns : goal.returns
returns c = dash_told (chars c.args.text.now) _ c.in_ok-literal.ensures c.some_blanks.result c.some_blanks.ensures
