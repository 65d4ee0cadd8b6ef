use Rattle.syslog_loose.proofs.Rfc3164Lemmas.Near.{read_near, read_nearly, stamp_read}
use Rattle.syslog_loose.proofs.laws.read_back.read_rfc3164_has_quirks_alone.Goals as goal

pub returns : goal.returns
returns c = record { near = read_near; nearly = read_nearly; timestamp = stamp_read }
