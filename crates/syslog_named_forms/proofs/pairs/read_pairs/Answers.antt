use Rattle.syslog_named_forms.proofs.Names.{ap, IsShown, loose, None, Noted, Option, shown, Some, subst, sym, Text}
use Rattle.syslog_named_forms.proofs.PairLemmas.{no_pairs, pairs_said}
use Rattle.syslog_named_forms.proofs.pairs.read_pairs.Goals as goal

pub returns-in_err-date : goal.returns-in_err-date
returns-in_err-date c = let (ps, r, f, e) = c.read_notes-notes.ensures in
    rw c.from_residual.ensures (no_pairs c.blanks-msg.ensures f (λ d h. c.in_err-date.ensures d
    (subst (λ (n : Noted). IsShown n d) (sym e) h)))

pub returns : goal.returns
returns c = let (ps, r, f, e) = c.read_notes-notes.ensures in
    pairs_said c.blanks-msg.ensures f (subst (λ (n : Noted). IsShown n c.in_ok-date.date) e c.in_ok-date.ensures)
    (ap (λ (x : Option Text). loose (Some c.in_ok-date.date) x None None (shown c.blanks-msg.result))
    (ap (λ (n : Noted). n.hostname) e))
