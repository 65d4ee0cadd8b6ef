use Rattle.syslog_dated_forms.proofs.Names.{◌++◌, ◌∷◌, ◌≡◌, BeginsWith, inl, inr, IsNode, refl, subst, Text, true, ℕ}
use Rattle.syslog_dated_forms.proofs.ReaderLemmas.{past_such}
use Rattle.syslog_dated_forms.specs.Cisco.{Starts}
use Rattle.syslog_dated_forms.specs.IosXr.{begins_node}
use Rattle.std.specs.Prelude.{codes}
use Rattle.syslog_dated_forms.proofs.ios_xr.node.Goals as goal

starts_so : (c : ℕ) (words w q : Text) → begins_node c ≡ true → Starts (c ∷ words) w → BeginsWith begins_node (w ++ q)
starts_so c words w q h (r, f) = rw (f.whole, f.is) h

node_begins : (w q : Text) → IsNode w → BeginsWith begins_node (w ++ q)
node_begins w q (inl h) = starts_so 82 (codes "P/") w q refl h
node_begins w q (inr (inl h)) = starts_so 76 (codes "C/") w q refl h
node_begins w q (inr (inr h)) = starts_so 48 (codes "/") w q refl h

pub returns-then-not-may_be_node : goal.returns-then-not-may_be_node
returns-then-not-may_be_node c p q v e ((u, h, is), k) = c.if-not-may_be_node.ensures
    (rw e (subst (λ (x : Text). BeginsWith begins_node (x ++ q)) is (node_begins v q k)))

pub returns : goal.returns
returns c = past_such IsNode _ _ c.past_word_if.ensures
