use Rattle.syslog_strict.proofs.Words.{ap, sym, ◌∙◌, IsUtf8-string_bytes, timestamp_text}
use Rattle.syslog_strict.proofs.StampLemmas.{stamp_chars, written}
use Rattle.syslog_strict.proofs.stamp.push_stamp.Goals as goal

pub returns-in_ok-write-in-Some : goal.returns-in_ok-write-in-Some
returns-in_ok-write-in-Some c = written _ _ _ _ (IsUtf8-string_bytes c.args.out.now) c.in_ok-write-in-Some.ensures.bytes
    (stamp_chars c.in-Some.stamp ∙ ap timestamp_text (sym c.in-Some.is))
