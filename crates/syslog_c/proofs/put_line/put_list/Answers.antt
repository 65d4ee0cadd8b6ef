use Rattle.syslog_c.proofs.TextLemmas.{chars_of_literals}
use Rattle.syslog_c.proofs.put_line.put_list.Goals as goal

pub returns-then-is_empty : goal.returns-then-is_empty
unfolding chars_of_literals
returns-then-is_empty c = rw c.if-is_empty.ensures c.put.ensures
