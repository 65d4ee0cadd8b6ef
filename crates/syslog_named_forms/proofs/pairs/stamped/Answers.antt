use Rattle.syslog_named_forms.proofs.pairs.stamped.Goals as goal

pub returns-in-Some : goal.returns-in-Some
returns-in-Some c = rw c.in-Some.is c.together.ensures
