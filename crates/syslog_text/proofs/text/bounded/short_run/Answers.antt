use Rattle.syslog_text.proofs.Names.{ap, length, refl, arith, has, texted}
use Rattle.syslog_text.proofs.TextLemmas.Runs.{ascii_chars, low_ascii, chars_nonempty, empty_is, nonempty_is}
use Rattle.syslog_text.proofs.TextLemmas.Runs.{no_run_front, run_is}
use Rattle.syslog_text.specs.Pieces.Rules.{short_run}
use Rattle.syslog_text.proofs.text.bounded.short_run.Goals as goal

pub returns-then-run-most : goal.returns-then-run-most
returns-then-run-most c = λ p q v e h.
    let s = c.split_run.ensures in
    let bytes = ascii_chars _ s.front_utf8 (low_ascii _ _ c.requires s.each) in
    let whole = run_is _ _ _ _ s p q e h.1.2 h.1.3 in
    omega (arith, ap length bytes, ap length whole, h.1.1)

pub returns-then-is_empty : goal.returns-then-is_empty
returns-then-is_empty c = no_run_front _ _ _ _ c.split_run.ensures (empty_is _ c.if-is_empty.ensures)
    (texted (short_run (has c.args.class) c.args.most)) (λ p q v h. (h.1.0, h.1.2))

pub returns : goal.returns
returns c =
    let s = c.split_run.ensures in
    let long = chars_nonempty _ s.front_utf8 (nonempty_is _ c.if-is_empty.ensures) in
    let bytes = ascii_chars _ s.front_utf8 (low_ascii _ _ c.requires s.each) in
    record { piece = _; whole = s.characters; is = (tt, (long, omega (arith, ap length bytes), s.each, s.ends), refl) }
