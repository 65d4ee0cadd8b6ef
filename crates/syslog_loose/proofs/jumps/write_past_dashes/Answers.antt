use Rattle.syslog_loose.proofs.Names.{IsUtf8-string_bytes, shown, printed, with_msg, on_ok_weaker, line_value}
use Rattle.syslog_loose.proofs.SettlingLemmas.Settles.{later_printed}
use Rattle.syslog_loose.proofs.jumps.write_past_dashes.Goals as goal

pub returns : goal.returns
returns c = λ variant dating input r e.
    let m = with_msg (line_value c.args.line.now) (shown c.msg_past_dashes.result) in
    on_ok_weaker _ (λ w. later_printed variant dating input (line_value c.args.line.now) (printed m) _
    (IsUtf8-string_bytes c.print_line.new.text) w (c.msg_past_dashes.ensures variant dating input r e))
    c.print_line.ensures
