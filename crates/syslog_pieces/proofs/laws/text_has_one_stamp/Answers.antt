use Rattle.syslog_pieces.proofs.TimestampLemmas.Rfc3339.{one_stamp}
use Rattle.syslog_pieces.proofs.laws.text_has_one_stamp.Goals as goal

pub returns-clause-instant : goal.returns-clause-instant
returns-clause-instant c text n o m p h k = (one_stamp text n o m p h k).0

pub returns-clause-at_offset : goal.returns-clause-at_offset
returns-clause-at_offset c text n o m p h k = (one_stamp text n o m p h k).1
