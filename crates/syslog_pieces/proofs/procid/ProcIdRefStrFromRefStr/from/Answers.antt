use Rattle.syslog_pieces.proofs.Names.{to_z-of_z}
use Rattle.syslog_pieces.proofs.ProcIdLemmas.{number_read, no_number_read}
use Rattle.syslog_pieces.proofs.procid.ProcIdRefStrFromRefStr.from.Goals as goal

pub returns-in-Ok : goal.returns-in-Ok
returns-in-Ok c =
    let h = number_read _ c.utf8.text _ c.in-Ok.number c.in-Ok.is c.parse.ensures.value.0 in
    let fits = h.1 in
    rw to_z-of_z h

pub returns-in-Err : goal.returns-in-Err
returns-in-Err c = (no_number_read _ c.utf8.text _ _ c.in-Err.is c.parse.ensures.value.0, cc)
