use Rattle.syslog_pieces.proofs.Names.{rfc3164_stamp, front_same}
use Rattle.syslog_pieces.proofs.TimestampLemmas.MonthDate.{rfc3164_stamp_det}
use Rattle.syslog_pieces.proofs.laws.text_has_one_rfc3164_stamp.Goals as goal

pub returns : goal.returns
returns c dating text rest others stamp other f g = front_same (rfc3164_stamp dating) (rfc3164_stamp_det dating) f g
