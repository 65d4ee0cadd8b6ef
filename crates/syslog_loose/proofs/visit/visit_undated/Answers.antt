use Rattle.syslog_loose.proofs.Names.{sym}
use Rattle.syslog_loose.proofs.ReadingLemmas.{left_to_try, other_front, line_3164, line_5424, visits_after}
use Rattle.syslog_loose.proofs.visit.visit_undated.Goals as goal

pub returns-in-Some : goal.returns-in-Some
returns-in-Some g c whole f without dating =
    let (line, read, makes, given) = c.in-Some.ensures whole f in
    (line, line_5424 c.args.variant dating line read, makes, given)

pub returns : goal.returns
returns g c whole f without dating =
    let (line, read, makes, given) = c.visit_3164.ensures in
    let front = c.in-Some-front_stamp.ensures in
    let stamp = other_front c.args.variant whole f without dating c.in-Some-front_stamp.timestamp front in
    let (strict, same, nothing) = c.in_default.ensures whole f in (
      line,
      line_3164 c.args.variant dating line (left_to_try c.args.variant whole front.reads strict)
          (read dating whole stamp),
      rw (sym same) makes,
      visits_after g.E.ElementVisitor.was_given _ _ _ _ nothing given,
    )
