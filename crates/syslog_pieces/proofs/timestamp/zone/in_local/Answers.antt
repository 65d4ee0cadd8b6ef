use Rattle.syslog_pieces.proofs.Names.{sym}
use Rattle.syslog_pieces.proofs.TimestampLemmas.MonthDate.{answer_at, answer_on_clock}
use Rattle.syslog_pieces.proofs.timestamp.zone.in_local.Goals as goal

pub returns-in-Some : goal.returns-in-Some
returns-in-Some c =
    (answer_at _ _ c.args.dt c.in-Some.offset _ (sym c.in-Some.ensures)
    (answer_on_clock c.args.fields c.args.dt _ _ c.requires c.clock_stamp.ensures)).1
