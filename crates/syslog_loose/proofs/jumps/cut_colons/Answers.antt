use Rattle.syslog_loose.proofs.{Names.rules, SettlingLemmas.Settles.cut_chars}
use Rattle.syslog_loose.proofs.jumps.cut_colons.Goals as goal

pub returns-clause-cuts : goal.returns-clause-cuts
returns-clause-cuts c = search (rules, cut_chars)
