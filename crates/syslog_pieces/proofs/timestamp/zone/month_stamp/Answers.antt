use Rattle.syslog_pieces.proofs.Names.{FitsSigned, w32, rules, to_z-of_z, dating_value}
use Rattle.syslog_pieces.proofs.TimestampLemmas.MonthDate.{answer_in_year}
use Rattle.syslog_pieces.proofs.timestamp.zone.month_stamp.Goals as goal

pub returns : goal.returns
returns c =
    let fits : FitsSigned w32 c.in_ok-year.year = search rules in
    answer_in_year (dating_value c.args.dating.now) c.args.date c.in_ok-year.year _ c.in_ok-year.ensures.value
    (simp to_z-of_z at c.civil_stamp.ensures)
