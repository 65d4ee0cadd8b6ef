use Rattle.syslog_text.proofs.Names.{tag_word}
use Rattle.syslog_text.proofs.TextLemmas.Runs.{chars_nonempty, empty_is, nonempty_is, no_run_front}
use Rattle.syslog_text.proofs.text.tag_word.Goals as goal

pub returns-then-is_empty : goal.returns-then-is_empty
returns-then-is_empty c =
    no_run_front _ _ _ _ c.split_run.ensures (empty_is _ c.if-is_empty.ensures) tag_word (λ p q v h. (h.0, h.1))

pub returns : goal.returns
returns c =
    let s = c.split_run.ensures in
    let long = chars_nonempty _ s.front_utf8 (nonempty_is _ c.if-is_empty.ensures) in
    record { piece = _; whole = s.characters; is = (long, s.each, s.ends, c.named.ensures) }
