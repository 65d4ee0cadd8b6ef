use Rattle.syslog_lines.proofs.Names.{arith, length, Appends-kept, take_all, Memory, Write, ap, sym}
use Rattle.syslog_lines.proofs.AnswerLemmas.{IfErr-passed}
use Rattle.syslog_lines.proofs.PumpLemmas.{EndsEarly-cut, EndsEarly-refused, EndsEarly-stopped, EndsEarly-unbegun}
use Rattle.syslog_lines.proofs.PumpLemmas.{PumpedSoFar-more, PumpedSoFar-start, PumpsAll-last, Reached-last}
use Rattle.syslog_lines.proofs.PumpLemmas.{Reached-more}
use Rattle.syslog_lines.proofs.pump.pump.Goals as goal

pub returns-in_err-block-clause-err : goal.returns-in_err-block-clause-err
returns-in_err-block-clause-err g c = IfErr-passed _ Memory _ c.from_residual.ensures.1 (EndsEarly-unbegun _ _ _ _)

pub loop-block-init : goal.loop-block-init
loop-block-init g c = record {
  so_far = PumpedSoFar-start _ _ _ _ _ _ _ c.start-place.ensures c.in_ok-block.ensures;
  seen = sym (ap length c.in_ok-block.ensures);
  reader_well = c.requires.reader;
  writer_well = c.requires.writer;
}

pub returns-in_err-fill-clause-err : goal.returns-in_err-fill-clause-err
returns-in_err-fill-clause-err g c =
    IfErr-passed _ c.in_err-fill.field-0.0 _ c.from_residual-in_err-fill.ensures.1
    (EndsEarly-stopped c.loop-block.invariant.so_far _ _ c.in_err-fill.field-0.0 c.in_err-fill.ensures.unchanged
    c.in_err-fill.ensures.err)

pub returns-in_err-write_whole-clause-err : goal.returns-in_err-write_whole-clause-err
returns-in_err-write_whole-clause-err g c =
    let filled = rw (c.if-branch.true, ← c.held.ensures) at c.in_ok-fill.ensures.ok in
    IfErr-passed _ Write _ (rw c.in_err-write_whole.ensures.fault.0 at c.from_residual-in_err-write_whole.ensures.1)
    (EndsEarly-cut (Reached-more c.loop-block.invariant.so_far _ _ filled _ _ _ _ c.filter_held-past.ensures.adds) _
    (rw c.deref.ensures.value at c.in_err-write_whole.ensures.err))

pub returns-in_err-past-clause-err : goal.returns-in_err-past-clause-err
returns-in_err-past-clause-err g c =
    let filled = rw (c.if-branch.true, ← c.held.ensures) at c.in_ok-fill.ensures.ok in
    IfErr-passed _ Memory _ c.from_residual-in_err-past.ensures.1
    (EndsEarly-refused (Reached-more c.loop-block.invariant.so_far _ _ filled _ _ _ _ c.filter_held-past.ensures.adds) _
    _ c.in_err-past.was (rw c.deref.ensures.value at c.in_ok-write_whole.ensures.ok))

pub loop-block-preserved : goal.loop-block-preserved
loop-block-preserved g c =
    let filled = rw (c.if-branch.true, ← c.held.ensures) at c.in_ok-fill.ensures.ok in record {
      so_far = rw (c.pass.ensures, ← c.held.ensures) (PumpedSoFar-more c.loop-block.invariant.so_far _ _ filled _ _ _ _
          c.filter_held-past.ensures.adds _ c.in_ok-past.was c.in_ok-past.ensures.held _
          (rw c.deref.ensures.value at c.in_ok-write_whole.ensures.ok));
      seen = ap length c.held-seen.ensures;
      reader_well = c.in_ok-fill.ensures.well;
      writer_well = c.in_ok-write_whole.ensures.well;
    }

pub returns-in_err-write_whole-2-clause-err : goal.returns-in_err-write_whole-2-clause-err
returns-in_err-write_whole-2-clause-err g c =
    let ended = rw (c.if-branch.false, ← c.held-2.ensures) at c.in_ok-fill.ensures.ok in
    IfErr-passed _ Write _ (rw c.in_err-write_whole-2.ensures.fault.0 at c.from_residual-in_err-write_whole-2.ensures.1)
    (EndsEarly-cut (Reached-last c.loop-block.invariant.so_far _ _ ended _ _ _ c.filter_last-answered.ensures) _
    (rw c.deref-2.ensures.value at c.in_err-write_whole-2.ensures.err))

pub returns-in_err-answered-clause-err : goal.returns-in_err-answered-clause-err
returns-in_err-answered-clause-err g c =
    let ended = rw (c.if-branch.false, ← c.held-2.ensures) at c.in_ok-fill.ensures.ok in
    IfErr-passed _ Memory _ c.from_residual-in_err-answered.ensures.1
    (EndsEarly-refused (Reached-last c.loop-block.invariant.so_far _ _ ended _ _ _ c.filter_last-answered.ensures) _ _
    c.in_err-answered.was (rw c.deref-2.ensures.value at c.in_ok-write_whole-2.ensures.ok))

pub returns-then-is_err-clause-err : goal.returns-then-is_err-clause-err
returns-then-is_err-clause-err g c =
    let ended = rw (c.if-branch.false, ← c.held-2.ensures) at c.in_ok-fill.ensures.ok in
    let output = c.filter_last-answered.new.self.output.items in
    EndsEarly-cut (Reached-last c.loop-block.invariant.so_far _ _ ended _ _ _ c.filter_last-answered.ensures) _ (
      length output,
      rw (take_all (length output) output (omega arith)) (Appends-kept _ _ _ output
          (rw c.deref-2.ensures.value at c.in_ok-write_whole-2.ensures.ok) c.flush.ensures.bytes),
    )

pub returns-clause-ok : goal.returns-clause-ok
returns-clause-ok g c =
    let ended = rw (c.if-branch.false, ← c.held-2.ensures) at c.in_ok-fill.ensures.ok in
    PumpsAll-last c.loop-block.invariant.so_far _ _ ended _ _ _ c.filter_last-answered.ensures _ c.in_ok-answered.was _
    (Appends-kept _ _ _ _ (rw c.deref-2.ensures.value at c.in_ok-write_whole-2.ensures.ok) c.flush.ensures.bytes)
    (record {
      answered = c.new-3.ensures.answered;
      skipped = c.new-3.ensures.skipped;
      answered_invalid = c.new-3.ensures.answered_invalid;
      skipped_invalid = c.new-3.ensures.skipped_invalid;
      too_long = c.new-3.ensures.too_long;
    })
