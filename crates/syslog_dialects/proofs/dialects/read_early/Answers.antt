use Rattle.syslog_dialects.proofs.dialects.read_early.Goals as goal

pub returns-in-Some : goal.returns-in-Some
returns-in-Some c = c.read_led.ensures c.in-Some.ensures

pub returns-in-None : goal.returns-in-None
returns-in-None c = c.read_unled.ensures c.in-None.ensures
