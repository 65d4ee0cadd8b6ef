use Rattle.syslog_pieces.proofs.Names.{encodes-chars}
use Rattle.syslog_text.proofs.TextLemmas.Words.{encodes-signed}
use Rattle.syslog_pieces.proofs.procid.ProcIdDisplay.fmt.Goals as goal

pub returns-in-PID-clause-writes : goal.returns-in-PID-clause-writes
returns-in-PID-clause-writes g c = rw (c.in-PID.is, encodes-signed) c.write.ensures.writes

pub returns-in-Name-clause-writes : goal.returns-in-Name-clause-writes
returns-in-Name-clause-writes g c =
    let bytes = c.as_str-name.result.now in
    rw (c.in-Name.is, ← c.as_str-name.ensures, encodes-chars bytes c.as_str-name.utf8) c.write_str.ensures.writes
