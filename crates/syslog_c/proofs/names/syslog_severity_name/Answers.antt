use Rattle.syslog_c.proofs.Words.{◌∙◌, ap, sym}
use Rattle.std.specs.Str.{chars}
use Rattle.syslog_c.proofs.NameLemmas.{severity_spelt}
use Rattle.syslog_c.proofs.names.syslog_severity_name.Goals as goal

pub returns-in-Some : goal.returns-in-Some
returns-in-Some c =
    let spelt = ap chars c.as_str.ensures ∙ severity_spelt c.in-Some.severity in
    rw (sym c.severity_at.ensures, c.in-Some.is) (rw spelt at c.optional_text.ensures)
