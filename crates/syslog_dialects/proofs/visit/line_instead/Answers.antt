use Rattle.syslog_dialects.proofs.Names.{AreAsked, chars}
use Rattle.syslog_dialects.proofs.SentReadingLemmas.{instead_given}
use Rattle.syslog_dialects.proofs.visit.line_instead.Goals as goal

pub returns : goal.returns
returns c =
    instead_given (AreAsked c.args.dialects c.args.variant) (c.asks_dialects.ensures.0 c.if-not-asks_dialects.false)
    c.args.dates.now (chars c.args.input.now) c.odd_line.result c.odd_line.ensures
