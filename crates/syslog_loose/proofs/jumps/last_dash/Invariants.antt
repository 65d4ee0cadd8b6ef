use Rattle.syslog_loose.proofs.Names.{ℕ, length, shadow, Utf8, chars, IsDashed, PassesDashes}
use Rattle.syslog_loose.proofs.jumps.last_dash.Given as goal

abbrev pub invariant-dashes : goal.invariant-dashes
invariant-dashes l = shadow (Utf8 l.from) × shadow (Utf8 l.rest)
    × ((n : ℕ) × PassesDashes n (chars l.text) (chars l.from)) × IsDashed (chars l.from) (chars l.rest)

abbrev pub decreases-dashes : goal.decreases-dashes
decreases-dashes l = length (chars l.rest)
