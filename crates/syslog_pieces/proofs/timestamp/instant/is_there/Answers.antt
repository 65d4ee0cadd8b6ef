use Rattle.syslog_pieces.proofs.Names.{FitsSigned, w32, rules, to_z-of_z}
use Rattle.syslog_pieces.proofs.TimestampLemmas.Civil.{civil-fields, civil_nanos-fields}
use Rattle.syslog_pieces.proofs.timestamp.instant.is_there.Goals as goal

pub returns-in-Some : goal.returns-in-Some
returns-in-Some c =
    let fits : FitsSigned w32 c.args.year = search rules in
    let same = simp to_z-of_z at c.in-Some.ensures.value in
    let nanos = civil_nanos-fields c.in-Some.dt _ same in (
      λ t. (
        civil-fields c.in-Some.dt _ same,
        rw nanos at (c.to_timestamp.ensures.succeeds.0 (rw c.is_ok.ensures.value at t)),
      ),
      λ there. rw c.is_ok.ensures.value (c.to_timestamp.ensures.succeeds.1 (rw nanos there.1)),
    )
