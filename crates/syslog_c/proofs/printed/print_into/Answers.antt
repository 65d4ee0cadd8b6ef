use Rattle.syslog_c.proofs.Words.{◌∙◌, [], rules, encode_utf8_all, line_value}
use Rattle.syslog_loose.specs.Printed.{printed}
use Rattle.syslog_c.specs.Room.{Puts}
use Rattle.syslog_c.proofs.TextLemmas.{taken_none, told, with_room}
use Rattle.syslog_c.proofs.printed.print_into.Goals as goal

pub returns : goal.returns
returns c =
    let bytes = encode_utf8_all (printed (line_value c.args.line.now)) in
    let first = c.new-buffer.result in
    let now = c.put_line.new.buffer in
    let h = c.put_line.ensures first [] (taken_none first c.new-buffer.ensures.none.1) in
    let same = h.same ∙ c.new-buffer.ensures.same in
    with_room
    (λ room. Puts bytes c.args.room.now room c.report_length.new.needed c.report_length.result) now.room.now _
    (search (rules, same))
    (told first now bytes c.args.room.now c.report_length.new.needed c.report_length.result
    c.new-buffer.ensures.none.0 h c.report_length.ensures)
