use Rattle.syslog_dialects.proofs.FoundLemmas.{read_found, said_found}
use Rattle.syslog_dialects.proofs.laws.texts_of_a_dialect_are_found_in_order.Goals as goal

pub returns-clause-said : goal.returns-clause-said
returns-clause-said c = said_found

pub returns-clause-read : goal.returns-clause-read
returns-clause-read c = read_found
