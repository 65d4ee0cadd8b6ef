use Rattle.syslog_loose.proofs.Names.{IsUtf8-string_bytes, ap, chars, on_ok_weaker, line_value, protocol_of}
use Rattle.syslog_loose.proofs.SettlingLemmas.Settles.{later_written}
use Rattle.syslog_loose.proofs.jumps.write_round.Goals as goal

pub returns-in-Some : goal.returns-in-Some
returns-in-Some c = λ variant dating input r e.
    let (k, l, once) = c.in-Some.ensures in
    on_ok_weaker _ (λ w. later_written variant dating input (line_value c.args.line.now) (chars c.in-Some.host.now)
    c.in-Some.cut _ (IsUtf8-string_bytes c.write_past_colons.new.text) r (ap protocol_of e) k l once w)
    c.write_past_colons.ensures
