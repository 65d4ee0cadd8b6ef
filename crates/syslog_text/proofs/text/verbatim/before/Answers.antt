use Rattle.syslog_text.proofs.TextLemmas.Runs.{rest_shorter, front_cut, front_chars}
use Rattle.syslog_text.proofs.text.verbatim.before.Goals as goal

pub overflow_sub-text : goal.overflow_sub-text
overflow_sub-text c = rest_shorter _ _ c.utf8.text c.utf8.rest _ c.requires.1

pub split_at-requires : goal.split_at-requires
split_at-requires c = front_cut _ _ c.utf8.text c.utf8.rest _ c.requires.1

pub returns : goal.returns
returns c = front_chars _ _ c.utf8.text c.utf8.rest _ c.requires.1 _ c.split_at.ensures.front
