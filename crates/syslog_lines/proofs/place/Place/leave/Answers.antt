use Rattle.syslog_lines.proofs.Names.{append-nil}
use Rattle.std.proofs.Math.Seq.{drop-length}
use Rattle.syslog_lines.proofs.LineLemmas.{long_front}
use Rattle.syslog_lines.proofs.place.Place.leave.Goals as goal

pub returns-clause-at : goal.returns-clause-at
returns-clause-at c = λ input messages opened.
    let (some, above) = c.is_long_front.ensures c.if-not-is_long_front.false in rw drop-length (
      c.args.bytes.now,
      c.cut_message-missing.result.0.now,
      rw append-nil opened,
      long_front c.args.frames _ above,
      some,
      c.cut_message-missing.ensures,
    )
