use Rattle.syslog_lines.proofs.Names.{arith}
use Rattle.syslog_lines.proofs.MarkLemmas.{mark_front}
use Rattle.syslog_lines.proofs.place.mark_size.Goals.{else-size-gt1-via-then-size-gt1+else-bytes-2}
use Rattle.syslog_lines.proofs.place.mark_size.Goals.{else-size-gt0-via-then-size-gt0+else-bytes}
use Rattle.syslog_lines.proofs.place.mark_size.Goals.{else-size-gt0-via-else-size-gt0, else-size-gt1-via-else-size-gt1}
use Rattle.syslog_lines.proofs.place.mark_size.Goals as goal

pub returns : goal.returns
returns c = mark_front c.args.bytes.now (omega arith)
    (elim c.else-size-gt0.branch [
      | else-size-gt0-via-then-size-gt0+else-bytes w ↦ λ some. w.if-bytes.false
      | else-size-gt0-via-else-size-gt0 w ↦ λ some. absurd (omega (arith, w.if-size-gt0.false, some))
    ])
    (elim c.else-size-gt1.branch [
      | else-size-gt1-via-then-size-gt1+else-bytes-2 w ↦ λ some. w.if-bytes-2.false
      | else-size-gt1-via-else-size-gt1 w ↦ λ some. absurd (omega (arith, w.if-size-gt1.false, some))
    ])
