use Rattle.syslog_tidy.proofs.Names.{◌∙◌, to_z-of_z, IfErr-passed}
use Rattle.syslog_tidy.proofs.FilterLemmas.{shared_out}
use Rattle.syslog_tidy.proofs.filters.refused.Goals as goal

pub returns-in_err-tally-clause-err : goal.returns-in_err-tally-clause-err
returns-in_err-tally-clause-err g c =
    let early = rw (c.plain.ensures, to_z-of_z _ _ c.ranges.year) at c.in_err-tally.ensures.err in
    IfErr-passed _ _ _ c.from_residual.ensures.1 early

pub returns-clause-ok : goal.returns-clause-ok
returns-clause-ok g c =
    let (answers, all, counted, lines) = rw (
      c.plain.ensures,
      to_z-of_z _ _ c.ranges.year,
    ) at c.in_ok-tally.ensures.ok in
    (answers, all, shared_out c.args.year all.lines _ all.answered, c.lines.ensures ∙ lines, counted.answered)
