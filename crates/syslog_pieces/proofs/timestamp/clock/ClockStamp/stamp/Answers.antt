use Rattle.syslog_pieces.proofs.Names.{refl, rules, ◌∙◌, FitsSigned, w128, to_z-of_z}
use Rattle.syslog_pieces.proofs.TimestampLemmas.Rfc3339.{same_timestamp}
use Rattle.syslog_pieces.proofs.timestamp.clock.ClockStamp.stamp.Goals as goal

pub returns : goal.returns
returns c =
    let fits : FitsSigned w128 c.nanosecond.result = search rules in
    same_timestamp _ _ ((simp to_z-of_z at c.in-Ok.ensures.value) ∙ c.nanosecond.ensures) refl
