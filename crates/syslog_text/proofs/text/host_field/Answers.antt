use Rattle.syslog_text.proofs.Names.{host, optional_some, spaced_front, no_spaced_space, no_spaced_piece, spaced}
use Rattle.syslog_text.proofs.Names.{optional_none}
use Rattle.syslog_text.proofs.text.host_field.Goals as goal

pub returns-in_default : goal.returns-in_default
returns-in_default c = optional_none (spaced host) (no_spaced_space host c.in_default.ensures)

pub returns-in-Some-host : goal.returns-in-Some-host
returns-in-Some-host c = rw c.of.ensures (optional_some (spaced host)
    (spaced_front host c.in-Some.ensures c.in-Some-host.ensures))

pub returns-in-None : goal.returns-in-None
returns-in-None c = optional_none (spaced host) (no_spaced_piece host c.in-Some.ensures c.in-None.ensures)
