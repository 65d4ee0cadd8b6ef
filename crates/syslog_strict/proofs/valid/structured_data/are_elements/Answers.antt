use Rattle.syslog_strict.proofs.Words.{ap, sym, ◌∙◌, chars, chars-nil, empty_is}
use Rattle.std.proofs.lemmas.List.{nil_from_length}
use Rattle.syslog_text.proofs.PieceLemmas.Rules.{all_of}
use Rattle.syslog_strict.proofs.valid.structured_data.are_elements.Goals as goal

pub returns-in-Ok-Some : goal.returns-in-Ok-Some
returns-in-Ok-Some c = λ h. (let (es, f) = rw c.in-Ok-Some.field-0-is at c.in-Ok-Some.ensures in
    (es, all_of f (ap chars (nil_from_length _ (empty_is _ (sym h ∙ c.is_empty.ensures))) ∙ chars-nil)))
