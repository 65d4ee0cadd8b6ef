use Rattle.syslog_sent.proofs.ZoneLemmas.{no_zone}
use Rattle.syslog_sent.proofs.zone.is_zone_name.Goals as goal

pub returns-then-not-has_shape : goal.returns-then-not-has_shape
returns-then-not-has_shape c = no_zone c.args.name.now c.utf8.name
    (rw c.as_bytes.ensures.value at c.if-not-has_shape.ensures)
