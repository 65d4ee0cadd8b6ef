use Rattle.syslog_named_forms.proofs.Names.{◌before◌, first, found}
use Rattle.syslog_sent.specs.declared.dialect.Dialect.TheVariants as dialect
use Rattle.syslog_named_forms.proofs.NamedFormLemmas.{no_undated, undated_said}
use Rattle.syslog_named_forms.specs.NamedForms.{undated_forms}
use Rattle.syslog_named_forms.specs.declared.untagged.Mark.TheVariants as mark
use Rattle.syslog_named_forms.proofs.named_forms.read_undated.Goals as goal

pub returns-in-Some : goal.returns-in-Some
returns-in-Some c = found undated_forms (first c.bare.result
    (undated_said mark.Cef c.blanks-msg.ensures dialect.Cef c.in-Some.ensures.1 c.bare.ensures))

pub returns-in-Some-mark_end : goal.returns-in-Some-mark_end
returns-in-Some-mark_end c = let gap = c.blanks-msg.ensures in
    found undated_forms (no_undated mark.Cef gap c.in_default.ensures before first c.bare-in-Some-mark_end.result
    (undated_said mark.Leef gap dialect.Leef c.in-Some-mark_end.ensures.1 c.bare-in-Some-mark_end.ensures))

pub returns-in-Some-read_pairs : goal.returns-in-Some-read_pairs
returns-in-Some-read_pairs c = let gap = c.blanks-msg.ensures in
    found undated_forms (no_undated mark.Cef gap c.in_default.ensures before
    no_undated mark.Leef gap c.in_default-mark_end.ensures before
    first c.in-Some-read_pairs.sent c.in-Some-read_pairs.ensures)

pub returns : goal.returns
returns c = let gap = c.blanks-msg.ensures in
    found undated_forms (no_undated mark.Cef gap c.in_default.ensures before
    no_undated mark.Leef gap c.in_default-mark_end.ensures before c.in_default-read_pairs.ensures before
    record { finds = c.of_header.ensures })
