use Rattle.syslog_dated_forms.proofs.Names.{◌∙◌, bare_word, bare_word_det, IsUptime, no_such_front, no_such_meaning}
use Rattle.syslog_dated_forms.proofs.Names.{such_front, sym}
use Rattle.std.specs.Prelude.{◌≡◌, false, true}
use Rattle.syslog_dated_forms.proofs.undated.uptime_word.Goals as goal

pub returns-in_err-word : goal.returns-in_err-word
returns-in_err-word c = rw c.from_residual.ensures (no_such_front bare_word IsUptime c.in_err-word.ensures)

pub returns-then-is_uptime : goal.returns-then-is_uptime
returns-then-is_uptime c = (_, such_front bare_word IsUptime c.in_ok-word.ensures (sym c.if-is_uptime.ensures))

pub returns-else-is_uptime : goal.returns-else-is_uptime
returns-else-is_uptime c = no_such_meaning bare_word IsUptime bare_word_det c.in_ok-word.ensures
    (λ is. (let bad : false ≡ true = c.if-is_uptime.ensures ∙ is in cc))
