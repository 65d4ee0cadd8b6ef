use Rattle.syslog_strict.proofs.Words.{Some, None, chars-nil, shown}
use Rattle.syslog_text.specs.Pieces.Class.{rest, spaced}
use Rattle.syslog_text.proofs.PieceLemmas.Class.{no_spaced_space, optional_none, optional_some, rest_front}
use Rattle.syslog_text.proofs.PieceLemmas.Class.{spaced_front}
use Rattle.syslog_strict.proofs.valid.spaced_msg.Goals as goal

pub returns-in-Some : goal.returns-in-Some
returns-in-Some c = (
  Some (shown c.in-Some.field-0),
  rw chars-nil (optional_some (spaced rest)
      (spaced_front rest c.in-Some.ensures (rest_front (shown c.in-Some.field-0)))),
)

pub returns-in-None : goal.returns-in-None
returns-in-None c = (None, optional_none (spaced rest) (no_spaced_space rest c.in-None.ensures))
