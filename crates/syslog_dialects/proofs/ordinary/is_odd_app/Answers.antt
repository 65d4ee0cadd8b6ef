use Rattle.syslog_dialects.proofs.Names.{refl, sym}
use Rattle.syslog_dialects.proofs.OddLemmas.{plain_not_odd}
use Rattle.syslog_dialects.proofs.ordinary.is_odd_app.Goals as goal

pub returns-then-begins_plainly : goal.returns-then-begins_plainly
returns-then-begins_plainly c = sym (plain_not_odd c.args.app.now c.utf8.app
    (rw c.as_bytes.ensures.value at (c.if-begins_plainly.ensures refl)))
