use Rattle.syslog_strict.proofs.Words.{append_assoc, rules}
use Rattle.std.proofs.lemmas.Result.{IfOk-equal}
use Rattle.syslog_strict.proofs.stamp.push_converted.Goals as goal

pub returns-in-Some : goal.returns-in-Some
returns-in-Some c = search (rules, IfOk-equal, append_assoc, c.strict_stamp.ensures)

pub returns-in-None : goal.returns-in-None
returns-in-None c = search (rules, IfOk-equal, append_assoc)
