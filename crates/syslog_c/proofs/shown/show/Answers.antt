use Rattle.syslog_c.proofs.Words.{refl}
use Rattle.syslog_c.proofs.ShownLemmas.{flagged_strict}
use Rattle.syslog_c.proofs.shown.show.Goals as goal

pub returns-then-protocol-eq5424 : goal.returns-then-protocol-eq5424
returns-then-protocol-eq5424 c = λ text has at is strict.
    flagged_strict text c.args.stamp.now _ (strict c.if-protocol-eq5424.true) refl refl refl refl
    refl refl at is
