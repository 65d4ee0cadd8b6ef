use Rattle.syslog_pieces.proofs.Names.{FitsSigned, w32, w64, refl, rules, to_z-of_z}
use Rattle.syslog_pieces.proofs.TimestampLemmas.Civil.{instant_by_count}
use Rattle.syslog_pieces.proofs.timestamp.instant.second_of.Goals as goal

pub returns : goal.returns
returns c =
    let f = c.args.fields in
    let fits_year : FitsSigned w32 f.year = search rules in
    let fits_seconds : FitsSigned w32 c.seconds.result = search rules in
    let fits_second : FitsSigned w64 c.second_at.result = search rules in
    let count = simp to_z-of_z at c.days-days.ensures.value in
    rw to_z-of_z (instant_by_count f c.days-days.result c.args.offset.seconds c.second_at.result _ count
    (rw c.seconds.ensures at (simp to_z-of_z at c.second_at.ensures)) refl)
