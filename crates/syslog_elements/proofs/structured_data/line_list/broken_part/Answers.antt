use Rattle.syslog_elements.proofs.Names.{append_cancel_right, ◌∙◌, chars-nil, []}
use Rattle.syslog_elements.proofs.structured_data.line_list.broken_part.Goals as goal

pub returns-in-None : goal.returns-in-None
returns-in-None c u is =
    let (utf8, e) = rw c.in-None.is at is in
    chars-nil ∙ append_cancel_right [] u _ e
