use Rattle.syslog_lines.proofs.AnswerLemmas.{IfErr-passed}
use Rattle.syslog_lines.proofs.CountLemmas.{AreCounts-kept}
use Rattle.syslog_5424.proofs.filter.write_converted.Goals as goal

pub returns-in_err-tally-clause-err : goal.returns-in_err-tally-clause-err
returns-in_err-tally-clause-err g c = IfErr-passed _ _ _ c.from_residual.ensures.1 c.in_err-tally.ensures.err

pub returns-clause-ok : goal.returns-clause-ok
returns-clause-ok g c =
    let (answers, all, counted, lines) = c.in_ok-tally.ensures.ok in (
      answers,
      all,
      AreCounts-kept c.args.frames c.args.filter.now.latin1 _ _ _ _ counted lines c.counts.ensures.lines
          c.counts.ensures.refused
          c.counts.ensures.refused_invalid c.counts.ensures.too_long c.counts.ensures.replaced,
    )
