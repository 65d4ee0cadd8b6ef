use Rattle.syslog_pieces.proofs.Names.{refl, ap, rules, CivilFields, clock_value}
use Rattle.syslog_pieces.proofs.TimestampLemmas.Civil.{shows_fields}
use Rattle.syslog_pieces.proofs.TimestampLemmas.Rfc3339.{own_year-to}
use Rattle.syslog_pieces.proofs.timestamp.canonical.is_canonical_clock.Goals as goal

pub returns-in-Some : goal.returns-in-Some
returns-in-Some c =
    let clock = c.in-Some.clock in
    let same = ap (λ (f : CivilFields). f.year) (shows_fields clock.fields _ clock.offset.seconds clock.civil refl) in
    let to = own_year-to (clock_value clock) in rw c.in-Some.is (search rules)
