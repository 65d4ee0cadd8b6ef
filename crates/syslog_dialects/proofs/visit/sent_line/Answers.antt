use Rattle.syslog_dialects.proofs.Names.{chars, inr, true}
use Rattle.syslog_dialects.proofs.SentReadingLemmas.{dialect_before, dialect_leaves, flags, no_flags, port_leaves}
use Rattle.syslog_dialects.proofs.SentReadingLemmas.{odd_elements, port_stands}
use Rattle.syslog_dialects.proofs.visit.sent_line.Goals as goal

pub returns-in-Sent-clause-reads : goal.returns-in-Sent-clause-reads
returns-in-Sent-clause-reads c dating of = let ((asks, may), is) = c.in-Sent.ensures in
    dialect_before c.args.dates.now dating c.args.dialects c.args.variant (chars c.args.input.now)
    c.asks_dialects.result
    c.asks_dialects.ensures asks.0 c.args.line.now c.in-Sent.sent asks.1 may is of

pub returns-in-Sent-clause-shown : goal.returns-in-Sent-clause-shown
returns-in-Sent-clause-shown c dating of = let ((asks, may), is) = c.in-Sent.ensures in
    flags c.args.dates.now dating c.args.dialects c.args.variant (chars c.args.input.now) true c.in-Sent.sent
    ((c.args.line.now, of, asks.1), may) is

pub returns-in-Sent-clause-elements : goal.returns-in-Sent-clause-elements
returns-in-Sent-clause-elements c = let ((asks, may), is) = c.in-Sent.ensures in
    rw is.named (odd_elements c.args.line.now asks.1)

pub returns-in-Sent-clause-leaves : goal.returns-in-Sent-clause-leaves
returns-in-Sent-clause-leaves c dating unparsed of left =
    dialect_leaves c.args.dates.now true c.args.variant (chars c.args.input.now) c.in-Sent.sent unparsed
    c.in-Sent.ensures.1 left

pub returns-in-Note-clause-reads : goal.returns-in-Note-clause-reads
returns-in-Note-clause-reads c dating of = let ((asks, odd), note) = c.in-Note.ensures in
    inr (c.asks_dialects.ensures.0 asks, ((c.args.line.now, of, odd), note))

pub returns-in-Kept-clause-reads : goal.returns-in-Kept-clause-reads
returns-in-Kept-clause-reads c dating of =
    port_stands c.args.dates.now dating c.args.dialects c.args.variant (chars c.args.input.now) c.asks_dialects.result
    c.asks_dialects.ensures c.args.line.now c.of.result c.of.ensures.0 c.of.ensures.1 c.in-Kept.ensures of

pub returns-in-Kept-clause-leaves : goal.returns-in-Kept-clause-leaves
returns-in-Kept-clause-leaves c dating unparsed of left =
    port_leaves c.args.variant dating (chars c.args.input.now) c.args.line.now c.of.result unparsed c.of.ensures.0
    c.of.ensures.1 of left

pub returns-in-Kept-clause-shown : goal.returns-in-Kept-clause-shown
returns-in-Kept-clause-shown c dating of =
    no_flags c.args.dates.now dating c.args.dialects c.args.variant (chars c.args.input.now) c.of.result c.of.ensures.1
    c.of.ensures.2 c.of.ensures.3
