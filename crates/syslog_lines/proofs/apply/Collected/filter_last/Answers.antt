use Rattle.syslog_lines.proofs.Names.{arith}
use Rattle.std.proofs.lemmas.List.{nil_from_length}
use Rattle.syslog_lines.proofs.AnswerLemmas.{some_left}
use Rattle.syslog_lines.proofs.HeldLemmas.{last_cut, last_long, last_none}
use Rattle.syslog_lines.proofs.PlaceLemmas.{cut_is, open_begun}
use Rattle.syslog_lines.proofs.apply.Collected.filter_last.Goals as goal

pub returns-in-Long : goal.returns-in-Long
returns-in-Long g c = rw c.clear.ensures.items (last_long c.args.frames _ c.args.place _ c.args.bytes.now _ _ _
    c.in-Long.is c.requires c.count_long.ensures)

pub returns-then-is_empty : goal.returns-then-is_empty
returns-then-is_empty g c = rw c.clear.ensures.items (last_none c.args.frames c.args.place c.args.bytes.now
    c.in_default.not-Long c.requires _ _ _ (nil_from_length c.args.bytes.now (grind arith)))

pub cut_message-requires : goal.cut_message-requires
cut_message-requires g c =
    open_begun c.args.frames.framing c.args.place c.args.bytes.now c.in_default.not-Long c.requires

pub returns : goal.returns
returns g c = last_cut c.args.frames c.args.place c.args.bytes.now c.in_default.not-Long c.requires _ _
    (some_left c.args.bytes.now _ c.is_empty.ensures c.if-is_empty.false)
    (cut_is c.args.frames.framing c.args.bytes.now _ _ c.cut_message.ensures)
    (rw c.clear.ensures.items at c.filter_message.ensures)
