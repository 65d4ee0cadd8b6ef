use Rattle.syslog_text.proofs.Names.{◌∙◌, word, colon}
use Rattle.syslog_text.proofs.TextLemmas.Runs.{chars_nonempty, empty_is, nonempty_is, text_is, text_is_not, run_is}
use Rattle.syslog_text.proofs.TextLemmas.Runs.{no_run_front}
use Rattle.syslog_text.proofs.TextLemmas.Words.{colon_ascii}
use Rattle.syslog_text.proofs.text.word.Goals as goal

pub returns-then-is_empty : goal.returns-then-is_empty
returns-then-is_empty c =
    no_run_front _ _ _ _ c.split_run.ensures (empty_is _ c.if-is_empty.ensures) word (λ p q v h. (h.0, h.1))

pub returns-then-is_byte : goal.returns-then-is_byte
returns-then-is_byte c = λ p q v e h. h.3 (run_is _ _ _ _ c.split_run.ensures p q e h.1 h.2
    ∙ text_is _ colon colon_ascii c.if-is_byte.ensures)

pub returns : goal.returns
returns c =
    let s = c.split_run.ensures in
    let long = chars_nonempty _ s.front_utf8 (nonempty_is _ c.if-is_empty.ensures) in
    let no_colon = text_is_not _ colon s.front_utf8 colon_ascii c.if-is_byte.ensures in
    record { piece = _; whole = s.characters; is = (long, s.each, s.ends, no_colon, c.named.ensures) }
