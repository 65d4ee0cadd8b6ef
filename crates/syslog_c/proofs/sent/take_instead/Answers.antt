use Rattle.std.specs.Str.{chars}
use Rattle.syslog_c.proofs.SentLemmas.{instead_meant, instead_taken, left_meant, port_taken}
use Rattle.syslog_c.proofs.sent.take_instead.Goals as goal

pub returns-in-Note : goal.returns-in-Note
returns-in-Note c has dating line of are other unnoted =
    absurd (unnoted c.in-Note.ensures.0 ((line, of, other), c.in-Note.ensures.1))

pub returns-in-Kept : goal.returns-in-Kept
returns-in-Kept c has dating line of are other unnoted =
    port_taken c.args.rules.now dating (chars c.args.text.now) line c.show_port.new.fields of
    (left_meant c.args.rules.now dating (chars c.args.text.now) line c.show_port.new.fields of c.in-Kept.ensures
    (c.show_port.ensures (chars c.args.text.now) has c.args.rules.now dating line of are))

pub returns-in-Sent : goal.returns-in-Sent
returns-in-Sent c has dating line of are other unnoted =
    instead_taken c.args.rules.now dating (chars c.args.text.now) line c.fields_sent.result of c.in-Sent.sent other
    (instead_meant c.args.rules.now dating (chars c.args.text.now) line c.fields_sent.result of c.in-Sent.sent
    other c.in-Sent.ensures
    (c.fields_sent.ensures c.args.rules.now dating (chars c.args.text.now)))
