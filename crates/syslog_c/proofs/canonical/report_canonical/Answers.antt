use Rattle.syslog_c.proofs.Words.{inl, inr, refl, rules}
use Rattle.syslog_c.proofs.LineLemmas.{on_line_map, tried_map}
use Rattle.syslog_c.proofs.canonical.report_canonical.Goals as goal

pub returns-in-Ok : goal.returns-in-Ok
returns-in-Ok c = inr (inr (tried_map _ _
    (λ port dating text read. inl (_, read.1, refl, search rules)) c.in-Ok.ensures))

pub returns-in-Err : goal.returns-in-Err
returns-in-Err c = on_line_map _ _ _ (λ left. refl)
    (λ port dating text refused. inr (refused, refl)) c.in-Err.ensures
