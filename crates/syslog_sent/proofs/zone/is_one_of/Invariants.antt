use Rattle.std.proofs.Common.{◌≡◌, drop, map, chars}
use Rattle.syslog_text.specs.Pieces.View.{shown}
use Rattle.syslog_sent.specs.Zone.{is_among}
use Rattle.syslog_sent.proofs.zone.is_one_of.Given as goal

abbrev pub invariant-loop-other : goal.invariant-loop-other
invariant-loop-other l = is_among (chars l.word) (map (λ s. shown s) l.words)
    ≡ is_among (chars l.word) (map (λ s. shown s) (drop l.other-index l.words))
