use Rattle.syslog_loose.proofs.Names.{refl, false_is, last_is, no_truth}
use Rattle.syslog_loose.proofs.message.canonical.is_program.Goals as goal

pub returns-else-is_only : goal.returns-else-is_only
returns-else-is_only g c =
    let label = rw c.as_str.ensures at c.if-is_only.ensures in
    rw c.if-is_only.false (false_is (λ h. no_truth (label.1 h.0)))

pub returns-then-is_only : goal.returns-then-is_only
returns-then-is_only g c =
    let label = rw c.as_str.ensures at c.if-is_only.ensures in
    last_is c.is_bracketed.result (label.0 refl) c.is_bracketed.ensures
