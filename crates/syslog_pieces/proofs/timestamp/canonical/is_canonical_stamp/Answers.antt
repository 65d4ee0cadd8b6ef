use Rattle.syslog_pieces.proofs.Names.{ap, arith, CivilFields, ints}
use Rattle.syslog_pieces.proofs.TimestampLemmas.Civil.{civil_fields-is}
use Rattle.syslog_pieces.proofs.TimestampLemmas.Rfc3339.{own_year-to}
use Rattle.syslog_pieces.proofs.timestamp.canonical.is_canonical_stamp.Goals as goal

pub returns : goal.returns
returns c =
    let same = civil_fields-is c.to_datetime.result _ c.to_datetime.ensures in
    let year = ap (λ (f : CivilFields). f.year) same in
    let to = own_year-to c.args.stamp in grind (arith, ints)
