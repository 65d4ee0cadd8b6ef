use Rattle.syslog_pieces.proofs.Names.{Some, None, plain_zone}
use Rattle.syslog_pieces.proofs.TimestampLemmas.MonthDate.{answer_of_fields}
use Rattle.syslog_pieces.proofs.timestamp.zone.of_fields.Goals as goal

pub returns-in-Some : goal.returns-in-Some
returns-in-Some c =
    rw c.in-Some.is (answer_of_fields _ c.in_ok-dt.dt (Some (plain_zone c.in-Some.tz.now))
    (plain_zone c.args.local.now) _ c.in_ok-dt.ensures.value c.in_zone.ensures)

pub returns-in-None : goal.returns-in-None
returns-in-None c =
    rw c.in-None.is (answer_of_fields _ c.in_ok-dt.dt None _ _ c.in_ok-dt.ensures.value c.in_local.ensures)
