use Rattle.syslog_named_forms.proofs.pairs.moment.Goals as goal

pub returns-in-Some : goal.returns-in-Some
returns-in-Some c = rw c.in-Some.is c.timed.ensures

pub returns-in-None : goal.returns-in-None
returns-in-None c = rw c.in-None.is c.stamped.ensures
