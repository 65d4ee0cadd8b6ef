use Rattle.syslog_loose.proofs.{Names.inl, Names.inr, SettlingLemmas.Falls.falls}
use Rattle.syslog_loose.proofs.laws.settling.read_again_weighs_less.Goals as goal

pub returns : goal.returns
returns c rule first second text m n w v dashes r s k x y =
    elim (falls rule first second text m n r s dashes w v x y) [ inl l ↦ l | inr e ↦ absurd (k e) ]
