use Rattle.syslog_strict.proofs.Words.{◌≡◌, drop, map, chars, shown, is_among}
use Rattle.syslog_strict.proofs.ids.is_one_of.Given as goal

abbrev pub invariant-loop-other : goal.invariant-loop-other
invariant-loop-other l = is_among (chars l.id) (map (λ s. shown s) l.ids)
    ≡ is_among (chars l.id) (map (λ s. shown s) (drop l.other-index l.ids))
