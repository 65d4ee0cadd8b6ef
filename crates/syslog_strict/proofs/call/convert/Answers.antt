use Rattle.syslog_strict.proofs.Words.{refl}
use Rattle.syslog_strict.proofs.ConversionLaws.{line_written}
use Rattle.syslog_loose.proofs.ReadingLemmas.{in_year_map}
use Rattle.syslog_strict.proofs.call.convert.Goals as goal

pub returns-in_default : goal.returns-in_default
returns-in_default g c = in_year_map (λ y none. (c.requires.other, ((λ e. none), (λ u. refl))))
    c.in_default.ensures.reads

pub returns : goal.returns
returns g c =
    in_year_map (λ y of. line_written _ _ _ _ _ _ c.requires.other of c.convert_line.ensures) c.in-Some.ensures.reads
