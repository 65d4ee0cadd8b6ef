use Rattle.syslog_strict.proofs.Words.{Some, None}
use Rattle.syslog_text.proofs.PieceLemmas.Class.{optional_none, optional_some}
use Rattle.syslog_strict.specs.Grammar.{time_secfrac}
use Rattle.syslog_strict.proofs.valid.timestamp.secfrac.Goals as goal

pub returns-in-Some : goal.returns-in-Some
returns-in-Some c = (Some c.in-Some.ensures.0, optional_some time_secfrac c.in-Some.ensures.1)

pub returns-in-None : goal.returns-in-None
returns-in-None c = (None, optional_none time_secfrac c.in-None.ensures)
