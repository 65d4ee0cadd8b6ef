use Rattle.syslog_tidy.proofs.Names.{◌∙◌, to_z-of_z, IfErr-passed}
use Rattle.syslog_tidy.proofs.AgainLemmas.{TidiesAll-again}
use Rattle.syslog_tidy.proofs.filters.run.Goals as goal

pub returns-in_err-tally-clause-err : goal.returns-in_err-tally-clause-err
returns-in_err-tally-clause-err g c =
    let early = rw (c.plain.ensures, to_z-of_z _ _ c.ranges.year) at c.in_err-tally.ensures.err in
    IfErr-passed _ _ _ c.from_residual.ensures.1 early

pub returns-clause-ok : goal.returns-clause-ok
returns-clause-ok g c =
    let (answers, all, counted, lines) = rw (
      c.plain.ensures,
      to_z-of_z _ _ c.ranges.year,
    ) at c.in_ok-tally.ensures.ok in
    (answers, all, c.lines.ensures ∙ lines, counted.skipped)

pub returns-clause-again : goal.returns-clause-again
returns-clause-again g c =
    let (answers, all, counted, lines) = rw (
      c.plain.ensures,
      to_z-of_z _ _ c.ranges.year,
    ) at c.in_ok-tally.ensures.ok in
    TidiesAll-again _ _ _ _ _ _ (answers, all, c.lines.ensures ∙ lines, counted.skipped)
