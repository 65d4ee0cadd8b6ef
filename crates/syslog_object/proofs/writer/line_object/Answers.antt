use Rattle.syslog_object.proofs.writer.line_object.Goals as goal

pub returns : goal.returns
returns c = rw (c.into_bytes.ensures) c.in_ok-start.ensures.text
