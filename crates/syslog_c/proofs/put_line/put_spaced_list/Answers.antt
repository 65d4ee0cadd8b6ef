use Rattle.syslog_c.proofs.Words.{◌≡◌, List, [], ◌∷◌, ◌++◌, refl, chars-nil}
use Rattle.std.specs.Prelude.{◌≢◌}
use Rattle.syslog_elements.specs.StructuredData.Element.{ElementValue, joined_elements}
use Rattle.syslog_loose.specs.Printed.{spaced_elements}
use Rattle.syslog_c.proofs.TextLemmas.{chars_of_literals, text_after, text_along}
use Rattle.syslog_c.proofs.put_line.put_spaced_list.Goals as goal

spaced : (es : List ElementValue) → es ≢ [] → joined_elements es ++ (32 ∷ []) ≡ spaced_elements es
spaced [] some = absurd (some refl)
spaced (e ∷ es) some = refl

pub returns-then-is_empty : goal.returns-then-is_empty
returns-then-is_empty c = rw c.if-is_empty.ensures (text_along _ _ _ _ chars-nil c.put.ensures)

pub returns : goal.returns
unfolding chars_of_literals
returns c = text_along _ _ _ _ (spaced _ c.if-is_empty.ensures)
    (text_after _ _ _ _ (32 ∷ []) c.put_joined.ensures c.put-2.ensures)
