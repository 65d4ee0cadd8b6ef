use Rattle.syslog_lines.proofs.frames.read_count.Goals as goal

pub returns-in-OctetCounts-clause-counted : goal.returns-in-OctetCounts-clause-counted
returns-in-OctetCounts-clause-counted c = rw c.in-OctetCounts.is c.octet_count.ensures.counted
