use Rattle.std.specs.Option.{option_map}
use Rattle.syslog_pieces.proofs.Names.{refl, rules, plain_zone, ◌≡◌, zone_of}
use Rattle.syslog_pieces.proofs.TimestampLemmas.MonthDate.{fixed_answer}
use Rattle.syslog_pieces.proofs.timestamp.zone.civil_stamp.Goals as goal

pub returns-in-Ok : goal.returns-in-Ok
returns-in-Ok c =
    let given = option_map (λ z. plain_zone z.now) c.args.tz in
    let zone : plain_zone c.unwrap_or.result.now ≡ zone_of given (plain_zone c.args.local.now) = search rules in
    fixed_answer given (plain_zone c.args.local.now) _ _ c.in-Ok.offset zone (c.in-Ok.ensures.succeeds.0 refl)
    c.in-Ok.ensures.value c.clock_stamp.result c.clock_stamp.ensures
