use Rattle.syslog_dialects.proofs.Names.{chars, IsOrdinary, IsTrue}
use Rattle.syslog_dialects.proofs.SentReadingLemmas.{instead_given}
use Rattle.syslog_dialects.proofs.visit.other_line.Goals as goal

pub returns : goal.returns
returns c =
    instead_given (IsTrue c.args.are_asked × (IsOrdinary c.args.line.now → ⊥))
    (c.if-not-are_asked.false, c.if-is_ordinary.ensures) c.args.dates.now (chars c.args.input.now) c.odd_line.result
    c.odd_line.ensures
