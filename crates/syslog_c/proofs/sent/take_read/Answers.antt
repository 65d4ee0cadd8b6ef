use Rattle.std.specs.Str.{chars}
use Rattle.syslog_c.proofs.SentLemmas.{ordinary_meant, port_taken}
use Rattle.syslog_c.proofs.sent.take_read.Goals as goal

pub returns-then-is_ordinary : goal.returns-then-is_ordinary
returns-then-is_ordinary c has dating line of are keeps unnoted =
    port_taken c.args.rules.now dating (chars c.args.text.now) line c.show_port.new.fields of
    (ordinary_meant c.args.rules.now dating (chars c.args.text.now) line c.show_port.new.fields of
    (rw c.if-is_ordinary.true at keeps) (c.show_port.ensures (chars c.args.text.now) has c.args.rules.now dating line of
    are))

pub returns : goal.returns
returns c has dating line of are keeps unnoted =
    c.take_instead.ensures has dating line of are (rw c.if-is_ordinary.false at keeps) unnoted
