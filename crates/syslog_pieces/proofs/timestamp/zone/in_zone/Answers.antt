use Rattle.syslog_pieces.proofs.Names.{sym, plain_zone}
use Rattle.syslog_pieces.proofs.TimestampLemmas.MonthDate.{answer_at, answer_on_clock}
use Rattle.syslog_pieces.proofs.timestamp.zone.in_zone.Goals as goal

pub returns : goal.returns
returns c =
    (answer_at _ (plain_zone c.args.tz.now) c.args.dt c.in_ok-offset.offset _ (sym c.in_ok-offset.ensures)
    (answer_on_clock c.args.fields c.args.dt _ _ c.requires c.clock_stamp.ensures)).0
