use Rattle.syslog_dated_forms.proofs.Names.{exactly}
use Rattle.syslog_text.proofs.PieceLemmas.Class.{no_front_no}
use Rattle.syslog_dated_forms.proofs.cisco.starts.Goals as goal

pub returns-in-Some : goal.returns-in-Some
returns-in-Some c = (_, c.in-Some.ensures)

pub returns-in-None : goal.returns-in-None
returns-in-None c = λ (q, f). no_front_no (exactly c.args.words.now) c.in-None.ensures f
