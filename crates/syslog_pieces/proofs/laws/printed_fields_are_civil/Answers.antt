use Rattle.syslog_pieces.proofs.TimestampLemmas.Civil.{civil_fields_exist}
use Rattle.syslog_pieces.proofs.laws.printed_fields_are_civil.Goals as goal

pub returns-clause-exist : goal.returns-clause-exist
returns-clause-exist c n h = (civil_fields_exist n h).0

pub returns-clause-count : goal.returns-clause-count
returns-clause-count c n h = (civil_fields_exist n h).1
