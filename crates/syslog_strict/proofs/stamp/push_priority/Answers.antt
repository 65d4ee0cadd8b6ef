use Rattle.syslog_strict.proofs.Words.{IsUtf8-string_bytes}
use Rattle.syslog_strict.proofs.StampLemmas.{priority_chars, written}
use Rattle.syslog_strict.proofs.stamp.push_priority.Goals as goal

pub returns : goal.returns
returns c = written _ _ _ _ (IsUtf8-string_bytes c.args.out.now) c.in_ok-write.ensures.bytes
    (priority_chars c.args.priority)
