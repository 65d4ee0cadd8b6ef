use Rattle.syslog_named_forms.proofs.pairs.timed.Goals as goal

pub returns-in-Some : goal.returns-in-Some
returns-in-Some c = rw c.in-Some.is c.apart.ensures

pub returns-in-None : goal.returns-in-None
returns-in-None c = rw c.in-None.is c.together.ensures
