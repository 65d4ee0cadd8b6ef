use Rattle.syslog_dated_forms.proofs.Names.{◌≡◌, Bool, false, is_among, refl, true}
use Rattle.std.specs.Prelude.{MatchBool, chars}
use Rattle.syslog_dated_forms.specs.UnixSeconds.{event_types}
use Rattle.syslog_dated_forms.proofs.unix_seconds.is_event_type.Goals as goal

decided : (b : Bool) → MatchBool b (b ≡ true) (b ≡ true → ⊥)
decided true = refl
decided false = λ e. let bad : false ≡ true = e in cc

pub returns : goal.returns
returns c = rw c.is_one_of.ensures (decided (is_among (chars c.args.word.now) event_types))
