use Rattle.std.proofs.Common.{ℕ, unwrap_or}
use Rattle.syslog_text.proofs.PieceLemmas.Class.{mapped_front, optional_some}
use Rattle.syslog_text.specs.Pieces.Class.{optional}
use Rattle.syslog_sent.specs.Zone.{minutes}
use Rattle.syslog_sent.proofs.zone.some_minutes.Goals as goal

pub returns-in-Some-clause-reads : goal.returns-in-Some-clause-reads
returns-in-Some-clause-reads c = mapped_front (optional minutes) ℕ (λ m. unwrap_or m 0)
    (optional_some minutes c.in-Some.ensures)
