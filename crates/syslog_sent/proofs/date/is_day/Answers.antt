use Rattle.syslog_sent.proofs.ZoneLemmas.{no_day}
use Rattle.syslog_sent.proofs.date.is_day.Goals as goal

pub returns-then-not-has_shape : goal.returns-then-not-has_shape
returns-then-not-has_shape c = no_day c.args.word.now c.utf8.word
    (rw c.as_bytes.ensures.value at c.if-not-has_shape.ensures)
