use Rattle.syslog_c.proofs.Words.{◌≡◌, ap, arith, length}
use Rattle.std.proofs.lemmas.List.{length-set}
use Rattle.syslog_lines.proofs.AnswerLemmas.{some_left}
use Rattle.syslog_c.proofs.RowLemmas.{all_lines, first_lines, none_left, one_more}
use Rattle.syslog_c.proofs.lines.read_rows.Goals.{then-loop-count-test+else-not-is_empty, else-loop-count-test}
use Rattle.syslog_c.proofs.lines.read_rows.Goals as goal

pub loop-count-preserved : goal.loop-count-preserved
loop-count-preserved c = (
  one_more _ _ _ _ _ _ _ _ _ c.loop-count.invariant.0 (some_left _ _ c.is_empty.ensures c.if-not-is_empty.true)
      c.first_line.ensures c.loop-count-test.true c.row_of.ensures,
  omega (arith, length-set c.loop-count.rows c.loop-count.count c.row_of.result, c.loop-count-test.true),
)

pub returns-then-is_empty : goal.returns-then-is_empty
returns-then-is_empty c = (
  (_, (c.take.ensures.taken c.if-not-take.false)),
  all_lines _ _ _ _ _ _ c.loop-count.invariant.0 (none_left _ _ c.is_empty-2.ensures c.if-is_empty.true),
)

pub returns-else-is_empty : goal.returns-else-is_empty
returns-else-is_empty c =
    let some = some_left _ _ c.is_empty-2.ensures c.if-is_empty.false in
    let full : c.loop-count.count ≡ length c.loop-count.rows = elim c.loop-count-test.branch [
      | then-loop-count-test+else-not-is_empty w ↦
          absurd (omega (arith, some, ap length (none_left _ _ w.is_empty.ensures w.if-not-is_empty.false)))
      | else-loop-count-test w ↦ omega (arith, c.loop-count.invariant.1, w.loop-count-test.false)
    ] in (
      (_, (c.take.ensures.taken c.if-not-take.false)),
      first_lines _ _ _ _ _ _ c.loop-count.invariant.0 some full,
    )
