use Rattle.syslog_text.proofs.TextLemmas.Runs.{bare_inside}
use Rattle.syslog_text.proofs.text.trim.Goals as goal

pub returns-then-is_bare : goal.returns-then-is_bare
returns-then-is_bare c = bare_inside c.args.text.now c.trim_ascii-inner.result.now c.trim_ascii-inner.utf8
    c.trim_ascii-inner.ensures.value (rw c.as_bytes.ensures.value at (c.is_bare.ensures c.if-is_bare.true))
