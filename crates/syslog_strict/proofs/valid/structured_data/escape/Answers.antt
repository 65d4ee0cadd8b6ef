use Rattle.syslog_strict.proofs.Words.{[], ◌∷◌, ◌++◌, Text, ap, ◌∙◌, refl}
use Rattle.syslog_strict.proofs.valid.structured_data.escape.Goals as goal

pub returns-in_err-after_backslash-clause-reads : goal.returns-in_err-after_backslash-clause-reads
returns-in_err-after_backslash-clause-reads c = rw c.from_residual.ensures (λ p q d e
    h. c.in_err-after_backslash.ensures (92 ∷ [])
    (d ∷ q) tt (e ∙ ap (λ (x : Text). x ++ q) h.0) refl)
