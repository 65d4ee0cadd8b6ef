use Rattle.syslog_loose.proofs.Names.{ℕ, length, shadow, Utf8, chars, PassesDashes}
use Rattle.syslog_loose.proofs.jumps.past_many_dashes.Given as goal

abbrev pub invariant-many : goal.invariant-many
invariant-many l = shadow (Utf8 l.from) × ((n : ℕ) × PassesDashes n (chars l.text) (chars l.from))

abbrev pub decreases-many : goal.decreases-many
decreases-many l = length l.from
