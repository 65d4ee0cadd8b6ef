use Rattle.syslog_strict.proofs.Words.{IsUtf8-string_bytes}
use Rattle.syslog_strict.proofs.TextLemmas.{pushed}
use Rattle.syslog_strict.proofs.text.push_text.Goals as goal

pub returns : goal.returns
returns c = pushed c.push_str.result c.args.text.now _ _ (IsUtf8-string_bytes c.args.out.now) c.push_str.ensures.bytes
