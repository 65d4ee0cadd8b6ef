use Rattle.syslog_lines.proofs.Names.{◌≡◌, ◌-◌, ◌^◌, false, held_bytes, length}
use Rattle.syslog_lines.proofs.PumpLemmas.{PumpedSoFar}
use Rattle.syslog_lines.proofs.pump.pump.Given as goal

abbrev pub invariant-loop-block : goal.invariant-loop-block
invariant-loop-block g l = record {
  so_far : PumpedSoFar l.frames (g.F.LineFilter.answers l.filter) (g.R.Read.remaining l.fn.reader.inner)
      (g.R.Read.remaining l.reader.inner) (g.W.Write.contents l.fn.writer.inner) (g.W.Write.contents l.writer.inner)
      l.initial.collected.tally l.place (held_bytes l.block) l.collected.tally;
  seen : l.seen ≡ length (held_bytes l.block);
  reader_well : l.reader.failed ≡ false;
  writer_well : l.writer.failed ≡ false;
}

abbrev pub decreases-loop-block : goal.decreases-loop-block
decreases-loop-block g l = 2 ^ 64 - l.reader.calls
