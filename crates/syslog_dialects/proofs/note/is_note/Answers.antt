use Rattle.syslog_dialects.proofs.Names.{◌++◌, ◌∙◌, ap, chars, sym, Text}
use Rattle.syslog_dialects.proofs.NoteLemmas.{note_is, not_opened}
use Rattle.syslog_dialects.proofs.note.is_note.Goals as goal

pub returns-in_default : goal.returns-in_default
returns-in_default c = not_opened (chars c.args.text.now) _ c.trimmed.ensures c.in_default.ensures

pub returns : goal.returns
returns c =
    let front = c.in-Some.ensures in
    let rest = chars c.in-Some.rest.now in
    let whole = sym c.trimmed.ensures ∙ front.whole ∙ ap (λ (x : Text). x ++ rest) front.is in
    let is = note_is (chars c.args.text.now) rest (chars c.in-Some-before_dashes.inner.now) whole
    c.in-Some-before_dashes.ensures in
    (λ begins. is.0 (c.begins_note.ensures.0 begins), λ note. c.begins_note.ensures.1 (is.1 note))
