use Rattle.syslog_dated_forms.proofs.Names.{arith, drop, is_open, length, refl, take}
use Rattle.std.proofs.lemmas.List.{take_all, drop_all}
use Rattle.std.proofs.lemmas.Str.{IsCharBoundary-end, IsUtf8-take, IsUtf8-drop, chars_past_char, chars-nil}
use Rattle.syslog_text.proofs.TextLemmas.Runs.{ends_run}
use Rattle.syslog_dated_forms.proofs.InBracketsLemmas.{each_open}
use Rattle.syslog_dated_forms.proofs.in_brackets.open_end.Goals as goal

pub returns-in-Some : goal.returns-in-Some
returns-in-Some c =
    let bs = c.args.text.now in
    let i = c.in-Some.end in
    let (j, (none, at), le, cut, more) = c.in-Some.ensures.cases in
    ends_run is_open bs i c.utf8.text cut (each_open (take i bs) (IsUtf8-take bs i c.utf8.text cut) none)
    (rw (chars_past_char (drop i bs) (drop j bs) 93 (IsUtf8-drop bs i c.utf8.text cut) at.split) refl)

pub returns-in-None : goal.returns-in-None
returns-in-None c =
    let bs = c.args.text.now in
    ends_run is_open bs (length bs) c.utf8.text (IsCharBoundary-end bs)
    (rw (take_all (length bs) bs (omega arith)) (each_open bs c.utf8.text c.in-None.ensures.cases))
    (rw (drop_all (length bs) bs (omega arith), chars-nil) tt)
