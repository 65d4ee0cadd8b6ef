use Rattle.syslog_loose.proofs.{Names.unique_division, Names.rfc5424_row, Rfc5424Lemmas.rfc5424_det}
use Rattle.syslog_loose.proofs.laws.one_rfc5424_division.Goals as goal

pub returns-clause-pieces : goal.returns-clause-pieces
returns-clause-pieces c text vs ws d e = (unique_division rfc5424_row rfc5424_det d e).0

pub returns-clause-meanings : goal.returns-clause-meanings
returns-clause-meanings c text vs ws d e = (unique_division rfc5424_row rfc5424_det d e).1
