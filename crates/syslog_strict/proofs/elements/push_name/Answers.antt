use Rattle.syslog_strict.proofs.Words.{chars, refl, sym}
use Rattle.syslog_strict.proofs.{ElementLemmas.name_same, TextLemmas.appended}
use Rattle.syslog_strict.proofs.elements.push_name.Goals as goal

pub returns-then-is_kept : goal.returns-then-is_kept
returns-then-is_kept c = appended c.push_text.result _ _ _ _
    (sym (name_same (chars c.args.name.now) (c.if-is_kept.ensures refl))) c.push_text.ensures
