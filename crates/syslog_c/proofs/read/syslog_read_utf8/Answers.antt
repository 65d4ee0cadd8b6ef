use Rattle.syslog_c.proofs.read.syslog_read_utf8.Goals as goal

pub returns : goal.returns
returns c = rw c.from_utf8_unchecked.ensures at c.read_text.ensures
