use Rattle.syslog_strict.proofs.Words.{ap, sym, Text, ◌∷◌}
use Rattle.syslog_strict.specs.Conversion.{gap_between}
use Rattle.syslog_strict.proofs.TextLemmas.{appended}
use Rattle.syslog_strict.proofs.conversion.push_space_before.Goals as goal

pub returns-in-Some : goal.returns-in-Some
returns-in-Some c d t = appended c.push_char.result _ _ _ _
    (ap (λ (x : Text). gap_between (d ∷ t) x) (sym c.in-Some.ensures.0)) c.push_char.ensures
