use Rattle.std.proofs.Common.{refl}
use Rattle.std.specs.Str.{chars}
use Rattle.syslog_strict_sent.proofs.ConvertLemmas.{line_converts}
use Rattle.syslog_strict.specs.Pushing.{text_in}
use Rattle.syslog_strict_sent.proofs.convert.convert_last.Goals as goal

pub returns-in-Some : goal.returns-in-Some
returns-in-Some c dating none =
    line_converts c.args.dates.now dating c.args.dialects c.args.variant (chars c.args.input.now)
    (text_in c.convert_apart.new.text) c.in-Some.sent.dialect c.in-Some.sent.line c.convert_apart.result c.requires
    (c.in-Some.ensures.reads dating none) c.in-Some.ensures.leaves c.convert_apart.ensures

pub returns-in-None : goal.returns-in-None
returns-in-None c dating none = (c.requires, (λ e. c.in-None.ensures.reads dating none, λ unsent. refl))
