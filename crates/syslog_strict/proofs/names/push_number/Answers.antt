use Rattle.syslog_strict.proofs.Words.{ap, ◌∙◌, to_z-of_z, IsUtf8-string_bytes, chars-IsAscii, signed_decimal}
use Rattle.syslog_strict.proofs.StampLemmas.{written}
use Rattle.syslog_text.proofs.TextLemmas.Words.{signed_ascii}
use Rattle.syslog_strict.proofs.names.push_number.Goals as goal

pub returns : goal.returns
returns c = written _ _ _ _ (IsUtf8-string_bytes c.args.out.now) c.in_ok-write.ensures.bytes
    (chars-IsAscii _ (signed_ascii _) ∙ ap signed_decimal (to_z-of_z _ _ c.ranges.number))
