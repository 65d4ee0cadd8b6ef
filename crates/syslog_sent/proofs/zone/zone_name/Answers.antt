use Rattle.std.proofs.Common.{◌++◌, subst}
use Rattle.syslog_text.specs.Pieces.Class.{Text}
use Rattle.syslog_text.proofs.PieceLemmas.Rules.{no_such_front, no_such_meaning, such_front}
use Rattle.syslog_sent.specs.Named.{BeginsWith}
use Rattle.syslog_sent.specs.Zone.{IsZoneName, bare_word, is_capital}
use Rattle.syslog_sent.proofs.ZoneLemmas.{bare_word_det, zone_capital}
use Rattle.syslog_sent.proofs.zone.zone_name.Goals as goal

pub returns-then-not-begins_with_capital : goal.returns-then-not-begins_with_capital
returns-then-not-begins_with_capital c p q v e ((u, h, is), k) = c.if-not-begins_with_capital.ensures
    (rw e (subst (λ (x : Text). BeginsWith is_capital (x ++ q)) is (zone_capital v q k)))

pub returns-in_err-name : goal.returns-in_err-name
returns-in_err-name c = rw c.from_residual.ensures (no_such_front bare_word IsZoneName c.in_err-name.ensures)

pub returns-then-not-is_zone_name : goal.returns-then-not-is_zone_name
returns-then-not-is_zone_name c = no_such_meaning bare_word IsZoneName bare_word_det c.in_ok-name.ensures
    c.if-not-is_zone_name.ensures

pub returns : goal.returns
returns c = such_front bare_word IsZoneName c.in_ok-name.ensures c.if-not-is_zone_name.ensures
