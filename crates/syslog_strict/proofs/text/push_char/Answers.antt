use Rattle.syslog_strict.proofs.Words.{◌++◌, ap, IsUtf8-string_bytes, encode_utf8, on_ok_weaker, ◌∙◌, text_in}
use Rattle.syslog_strict.proofs.TextLemmas.{one_char, pushed}
use Rattle.syslog_strict.proofs.text.push_char.Goals as goal

pub returns : goal.returns
returns c = on_ok_weaker c.push.result
    (λ e. e ∙ ap (λ y. text_in c.args.out.now ++ y) (one_char c.args.c c.ranges.c.0))
    (pushed c.push.result (encode_utf8 c.args.c) _ _ (IsUtf8-string_bytes c.args.out.now) c.push.ensures.bytes)
