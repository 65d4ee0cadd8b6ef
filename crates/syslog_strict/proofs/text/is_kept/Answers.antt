use Rattle.syslog_text.proofs.PieceLemmas.Rules.{all_of}
use Rattle.syslog_strict.proofs.TextLemmas.{nothing_shown}
use Rattle.syslog_strict.proofs.text.is_kept.Goals as goal

pub returns-in-Some : goal.returns-in-Some
returns-in-Some c = λ h. (tt, (all_of c.in-Some.ensures (nothing_shown _ _ c.is_empty.ensures h)).1)
