use Rattle.syslog_loose.proofs.Names.{false_is, no_truth, each_left, each_right, is_tag_char, is_open_char}
use Rattle.syslog_loose.proofs.message.canonical.is_bracketed_name.Goals as goal

pub returns-then-not-is_some_of : goal.returns-then-not-is_some_of
returns-then-not-is_some_of c =
    false_is (λ h. no_truth (c.if-not-is_some_of.ensures.1 (h.0, each_left is_tag_char is_open_char _ h.1)))

pub returns-then-not-is_only : goal.returns-then-not-is_only
returns-then-not-is_only c =
    false_is (λ h. no_truth (c.if-not-is_only.ensures.1 (each_right is_tag_char is_open_char _ h.1)))
