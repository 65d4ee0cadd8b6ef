use Rattle.std.proofs.Common.{◌++◌, subst}
use Rattle.syslog_text.specs.Pieces.Class.{Text}
use Rattle.syslog_text.proofs.PieceLemmas.Rules.{no_such_front, no_such_meaning, such_front}
use Rattle.syslog_sent.specs.Date.{IsDay}
use Rattle.syslog_sent.specs.Named.{BeginsWith}
use Rattle.syslog_sent.specs.Zone.{bare_word, is_capital}
use Rattle.syslog_sent.proofs.ZoneLemmas.{bare_word_det, day_capital}
use Rattle.syslog_sent.proofs.date.weekday.Goals as goal

pub returns-then-not-begins_with_capital : goal.returns-then-not-begins_with_capital
returns-then-not-begins_with_capital c p q v e ((u, h, is), k) = c.if-not-begins_with_capital.ensures
    (rw e (subst (λ (x : Text). BeginsWith is_capital (x ++ q)) is (day_capital v q k)))

pub returns-in_err-day : goal.returns-in_err-day
returns-in_err-day c = rw c.from_residual.ensures (no_such_front bare_word IsDay c.in_err-day.ensures)

pub returns-then-not-is_day : goal.returns-then-not-is_day
returns-then-not-is_day c = no_such_meaning bare_word IsDay bare_word_det c.in_ok-day.ensures c.if-not-is_day.ensures

pub returns : goal.returns
returns c = (_, such_front bare_word IsDay c.in_ok-day.ensures c.if-not-is_day.ensures)
