use Rattle.syslog_loose.proofs.{Names.header_stamp, Names.stamp_seen, ReadingLemmas.front_read}
use Rattle.syslog_loose.proofs.visit.front_stamp.Goals as goal

pub returns-then-reads_rfc3164 : goal.returns-then-reads_rfc3164
returns-then-reads_rfc3164 c =
    front_read header_stamp stamp_seen _ _ _ _ c.if-reads_rfc3164.ensures c.blanks.ensures c.header_stamp.ensures
