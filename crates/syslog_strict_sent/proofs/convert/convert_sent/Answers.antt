use Rattle.std.proofs.Common.{None}
use Rattle.std.specs.Str.{chars}
use Rattle.syslog_loose.proofs.ReadingLemmas.{in_year_map, in_year_told}
use Rattle.syslog_loose.proofs.UnparsedLemmas.{leaves_of}
use Rattle.syslog_strict_sent.proofs.ConvertLemmas.{line_converts}
use Rattle.syslog_strict.specs.Pushing.{text_in}
use Rattle.syslog_strict_sent.proofs.convert.convert_sent.Goals as goal

pub returns-in_default : goal.returns-in_default
returns-in_default c =
    in_year_told (in_year_map (λ year none. c.convert_unread.ensures _ none) c.in_default.ensures.reads)
    (λ date y is. is.1)

pub returns-in-Some-convert_before : goal.returns-in-Some-convert_before
returns-in-Some-convert_before c =
    in_year_told (in_year_map (λ year of. c.in-Some-convert_before.ensures _ of) c.in-Some.ensures.reads)
    (λ date y is. is.1)

pub returns-in-None : goal.returns-in-None
returns-in-None c =
    in_year_told (in_year_map (λ year of. line_converts c.args.dates.now _ c.args.dialects c.args.variant
    (chars c.args.input.now) (text_in c.convert_line.new.text) None c.in-Some.line c.convert_line.result c.requires
    (c.in-None.ensures _ of) (λ u left. leaves_of _ _ _ _ u of left) c.convert_line.ensures) c.in-Some.ensures.reads)
    (λ date y is. is.1)
