use Rattle.syslog_c.proofs.Words.{◌∙◌, ap, sym}
use Rattle.std.specs.Str.{chars}
use Rattle.syslog_c.proofs.NameLemmas.{facility_spelt}
use Rattle.syslog_c.proofs.names.syslog_facility_name.Goals as goal

pub returns-in-Some : goal.returns-in-Some
returns-in-Some c =
    let spelt = ap chars c.as_str.ensures ∙ facility_spelt c.in-Some.facility in
    rw (sym c.facility_at.ensures, c.in-Some.is) (rw spelt at c.optional_text.ensures)
