use Rattle.syslog_pieces.proofs.TimestampLemmas.Rfc3339.{printed_stamp_back, stamp_text_canonical}
use Rattle.syslog_pieces.proofs.laws.canonical_stamp_reads_back.Goals as goal

pub returns-clause-back : goal.returns-clause-back
returns-clause-back c = printed_stamp_back

pub returns-clause-only : goal.returns-clause-only
returns-clause-only c = stamp_text_canonical
