use Rattle.syslog_dialects.proofs.Names.{chars}
use Rattle.syslog_dialects.proofs.SentReadingLemmas.{found_leaves, unread, unread_flags}
use Rattle.syslog_dialects.proofs.visit.unread_line.Goals as goal

pub returns-clause-reads : goal.returns-clause-reads
returns-clause-reads c dating none =
    unread c.args.dates.now dating c.args.dialects c.args.variant (chars c.args.input.now) c.asks_dialects.result
    c.asks_dialects.ensures c.last_line.result c.last_line.ensures none

pub returns-clause-leaves : goal.returns-clause-leaves
returns-clause-leaves c =
    found_leaves c.args.dates.now c.args.variant (chars c.args.input.now) c.asks_dialects.result _ c.last_line.result
    c.last_line.ensures

pub returns-clause-shown : goal.returns-clause-shown
returns-clause-shown c dating none =
    unread_flags c.args.dates.now dating c.args.dialects c.args.variant (chars c.args.input.now) c.asks_dialects.result
    c.last_line.result c.last_line.ensures none
