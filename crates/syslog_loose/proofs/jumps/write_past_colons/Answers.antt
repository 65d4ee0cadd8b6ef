use Rattle.syslog_loose.proofs.Names.{◌-◌, chars-IsAscii, chars, colon, line_value, colon_ascii, on_ok_weaker}
use Rattle.syslog_loose.proofs.SettlingLemmas.Settles.{past_written}
use Rattle.syslog_loose.proofs.jumps.write_past_colons.Goals as goal

pub returns : goal.returns
returns c =
    on_ok_weaker c.push_tail.result (past_written (line_value c.args.line.now) (chars c.args.host.now)
    (c.args.cut - 1) _ _ _
    (rw (c.none.ensures.elements, chars-IsAscii colon colon_ascii) at c.in_ok-print_line.ensures)
    c.in_ok-push_colons.ensures) c.push_tail.ensures
