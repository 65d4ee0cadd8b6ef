use Rattle.syslog_pieces.proofs.Names.{◌/◌}
use Rattle.syslog_pieces.proofs.PriLemmas.{facility_told}
use Rattle.syslog_pieces.proofs.pri.decompose_pri.Goals as goal

pub returns-clause-facility : goal.returns-clause-facility
returns-clause-facility c = facility_told (c.args.pri / 8) c.facility_at.result c.facility_at.ensures
