use Rattle.syslog_loose.proofs.message.canonical.are_canonical_names.Goals as goal

pub returns-in-None-process : goal.returns-in-None-process
returns-in-None-process g c = rw (c.in-Some.is, c.in-None-process.is) (rw c.as_str.ensures at c.is_lone_tag.ensures)
