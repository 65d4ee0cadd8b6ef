use Rattle.syslog_pieces.proofs.Names.{arith, ◌-◌, signed_arith}
use Rattle.jiff_core.proofs.MarchLemmas.{day_count-early, day_count-late}
use Rattle.syslog_pieces.proofs.timestamp.instant.days.Goals as goal

pub returns-then-month-le2-clause-value : goal.returns-then-month-le2-clause-value
returns-then-month-le2-clause-value c =
    let e = day_count-early c.args.year (c.years-year.result - 1) c.args.month c.args.day
    (omega (arith, signed_arith, c.years-year.ensures)) (omega arith) (omega arith) (omega arith) in omega arith

pub returns-else-month-le2-clause-value : goal.returns-else-month-le2-clause-value
returns-else-month-le2-clause-value c =
    let e = day_count-late c.args.year c.years-year.result c.args.month c.args.day
    (omega (arith, signed_arith, c.years-year.ensures)) (omega arith) (omega arith) (omega arith) in omega arith
