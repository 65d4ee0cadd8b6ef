use Rattle.std.specs.Str.{chars}
use Rattle.std.proofs.Common.{inr, refl, true}
use Rattle.syslog_dialects.proofs.SentReadingLemmas.{dialect_leaves, in_dialect}
use Rattle.syslog_strict_sent.proofs.ConvertLemmas.{line_converts}
use Rattle.syslog_strict.specs.Pushing.{text_in}
use Rattle.syslog_strict_sent.proofs.convert.convert_instead.Goals as goal

pub returns-in-Note : goal.returns-in-Note
returns-in-Note c dating line of odd =
    let (asked, note) = c.in-Note.ensures in
    (c.requires, (λ e. inr (asked, ((line, of, odd), note)), λ unsent. refl))

pub returns-in-Sent : goal.returns-in-Sent
returns-in-Sent c dating line of odd =
    let ((asked, may), is) = c.in-Sent.ensures in
    let dates = c.args.dates.now in
    let input = chars c.args.input.now in
    let it = c.in-Sent.sent in
    line_converts dates dating c.args.dialects c.args.variant input (text_in c.convert_apart.new.text) it.dialect
    it.line c.convert_apart.result c.requires
    (in_dialect dates dating c.args.dialects c.args.variant input asked true it ((line, of, odd), may) is)
    (λ u left. dialect_leaves dates true c.args.variant input it u is left) c.convert_apart.ensures
