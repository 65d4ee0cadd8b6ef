use Rattle.syslog_loose.proofs.Rfc3164Lemmas.{one_form}
use Rattle.syslog_loose.proofs.laws.one_form.Goals as goal

pub returns-clause-tag : goal.returns-clause-tag
returns-clause-tag c text tag id tag' id' f g = (one_form text tag id tag' id' f g).0

pub returns-clause-id : goal.returns-clause-id
returns-clause-id c text tag id tag' id' f g = (one_form text tag id tag' id' f g).1
