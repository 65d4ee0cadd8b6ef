use Rattle.syslog_dialects.proofs.MessageLemmas.{sent_end, sent_msg}
use Rattle.syslog_dialects.proofs.laws.messages_end_their_lines.Goals as goal

pub returns : goal.returns
returns c dates dating dialects variant text dialect m (asked, (is_read, left, is)) =
    let end = sent_end dates is_read text dialect m is in
    let msg = sent_msg dates is_read text dialect m is in
    ((end.before, end.whole), msg.0, msg.1)
