use Rattle.syslog_text.proofs.Names.{rules, ℕ, Bool, not, List, [], ◌∷◌, length, take, drop, arith, take_all}
use Rattle.syslog_text.proofs.Names.{drop_all, not-true, not-false, IsUtf8-take, IsUtf8-drop, chars_past_char}
use Rattle.syslog_text.proofs.Names.{chars-nil, chars, IsUtf8, NoCharPasses, NonePass, has, Each}
use Rattle.std.proofs.lemmas.Fn.{always_returns_same}
use Rattle.std.proofs.lemmas.Str.{IsCharBoundary-end, chars_from_encodes}
use Rattle.syslog_text.proofs.TextLemmas.Runs.{ends_run, visible_run}
use Rattle.syslog_text.proofs.text.mixed_run_end.Goals as goal

each_from_none : (test : ℕ → Bool) (cs : List ℕ) → NonePass (λ c. not (test c)) cs → Each test cs
each_from_none test [] n = tt
each_from_none test (c ∷ cs) n = (not-false (test c) n.0, each_from_none test cs n.1)

each_of_text : (test : ℕ → Bool) (bs : List ℕ) → IsUtf8 bs → NoCharPasses (λ c. not (test c)) bs → Each test (chars bs)
each_of_text test bs u (cs, e, n) = rw (← chars_from_encodes cs bs u e) (each_from_none test cs n)

pub returns-in-Some : goal.returns-in-Some
returns-in-Some c =
    let (run, short, low) = rw c.as_bytes.ensures.value at c.in-Some.ensures in
    rw c.in-Visible.is (visible_run _ _ c.utf8.text run short low)

pub returns-in-Some-find : goal.returns-in-Some-find
returns-in-Some-find c =
    let bs = c.args.text.now in
    let i = c.in-Some-find.end in
    let test : ℕ → Bool = has c.args.class in
    let (j, find, le, cut, more) = c.in-Some-find.ensures.cases in
    let (none, (x, pass, at)) = find (λ x. not (test x))
    (always_returns_same _ _ _ (λ a r f g. (search rules, search rules))) in
    ends_run test bs i c.utf8.text cut (each_of_text test (take i bs) (IsUtf8-take bs i c.utf8.text cut) none)
    (rw (chars_past_char (drop i bs) (drop j bs) x (IsUtf8-drop bs i c.utf8.text cut) at.split)
    (not-true (test x) pass))

pub returns-in-None : goal.returns-in-None
returns-in-None c =
    let bs = c.args.text.now in
    let test : ℕ → Bool = has c.args.class in
    let none = c.in-None.ensures.cases (λ x. not (test x))
    (always_returns_same _ _ _ (λ a r f g. (search rules, search rules))) in
    ends_run test bs (length bs) c.utf8.text (IsCharBoundary-end bs)
    (rw (take_all (length bs) bs (omega arith)) (each_of_text test bs c.utf8.text none))
    (rw (drop_all (length bs) bs (omega arith), chars-nil) tt)
