use Rattle.std.proofs.Common.{ap, ◌∙◌, refl}
use Rattle.std.proofs.lemmas.Str.{chars-IsAscii}
use Rattle.std.specs.Str.{chars}
use Rattle.syslog_text.specs.Pieces.Class.{Text}
use Rattle.syslog_text.specs.Pieces.View.{text_eq}
use Rattle.syslog_sent.proofs.NamedLemmas.{ascii_told, other_word}
use Rattle.syslog_sent.proofs.named.is_word.Goals as goal

pub returns : goal.returns
returns c = c.is_same_text.ensures
    ∙ ap (λ (x : Text). text_eq (chars c.args.text.now) x) (chars-IsAscii c.args.word.now (ascii_told _ c.requires))

pub returns-then-not-may_be_same : goal.returns-then-not-may_be_same
returns-then-not-may_be_same c = other_word _ _ c.utf8.text (ascii_told _ c.requires)
    (rw (c.as_bytes.ensures.value, c.as_bytes-2.ensures.value) at (c.if-not-may_be_same.ensures refl))
