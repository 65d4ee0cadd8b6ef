use Rattle.syslog_dated_forms.proofs.Names.{refl, some_run}
use Rattle.syslog_text.proofs.TextLemmas.Runs.{chars_nonempty, empty_is, nonempty_is, no_run_front}
use Rattle.syslog_text.specs.Text.CharClass.{is_label_char}
use Rattle.syslog_text.specs.Pieces.Class.{texted}
use Rattle.syslog_dated_forms.proofs.ios_xr.name.Goals as goal

pub returns-then-is_empty : goal.returns-then-is_empty
returns-then-is_empty c = no_run_front _ _ _ _ c.split_run.ensures (empty_is _ c.if-is_empty.ensures)
    (texted (some_run is_label_char))
    (λ p q v h. (h.1.0, h.1.1))

pub returns : goal.returns
returns c =
    let s = c.split_run.ensures in
    let long = chars_nonempty _ s.front_utf8 (nonempty_is _ c.if-is_empty.ensures) in
    record { piece = _; whole = s.characters; is = (tt, (long, s.each, s.ends), refl) }
