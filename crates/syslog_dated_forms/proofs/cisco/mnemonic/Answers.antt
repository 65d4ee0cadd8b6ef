use Rattle.syslog_dated_forms.proofs.Names.{[], ◌++◌, ◌||◌, ◌∷◌, and_parts, begins_mnemonic, BeginsWith, is_letter}
use Rattle.syslog_dated_forms.proofs.Names.{IsMnemonic, nat_eq, subst, Text}
use Rattle.syslog_dated_forms.proofs.ReaderLemmas.{such_word}
use Rattle.syslog_dated_forms.proofs.cisco.mnemonic.Goals as goal

mnemonic_begins : (w q : Text) → IsMnemonic w → BeginsWith begins_mnemonic (w ++ q)
mnemonic_begins [] q h = absurd h
mnemonic_begins (c ∷ []) q h = absurd h
mnemonic_begins (c ∷ d ∷ more) q h = (and_parts (nat_eq c 37 || nat_eq c 35) (is_letter d) h).0

pub returns-then-not-begins_with_mark : goal.returns-then-not-begins_with_mark
returns-then-not-begins_with_mark c p q v e ((u, h, is), k) = c.if-not-begins_with_mark.ensures
    (rw e (subst (λ (x : Text). BeginsWith begins_mnemonic (x ++ q)) is (mnemonic_begins v q k)))

pub returns : goal.returns
returns c = such_word IsMnemonic _ _ c.word_if.ensures
