use Rattle.syslog_strict.proofs.Words.{ap, sym, Text, chars, shown}
use Rattle.syslog_strict.specs.Conversion.{gap_between}
use Rattle.syslog_strict.proofs.TextLemmas.{appended}
use Rattle.syslog_strict.proofs.conversion.push_gap.Goals as goal

pub returns-in-Some : goal.returns-in-Some
returns-in-Some c = appended c.push_space_before.result _ _ _ _
    (ap (λ (x : Text). gap_between x (chars c.args.after.now)) (sym c.in-Some.ensures.0))
    (c.push_space_before.ensures c.in-Some.field-0.0 (shown c.in-Some.field-0.1))
