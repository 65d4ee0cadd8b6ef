use Rattle.syslog_text.proofs.Names.{◌≡◌, ℕ, List, nat_eq, ap, ◌∙◌, one_answer, chars, IsUtf8, text_eq}
use Rattle.std.specs.Cmp.Lexicographic.{pointwise, bytes_decides}
use Rattle.syslog_text.proofs.TextLemmas.Runs.{same_chars}
use Rattle.syslog_text.proofs.as_str.is_same_text.Goals as goal

-- texts are equal as lists of characters exactly where their bytes are
text_eq-chars : (x y : List ℕ) → IsUtf8 x → IsUtf8 y → pointwise nat_eq x y ≡ text_eq (chars x) (chars y)
text_eq-chars x y u v =
    one_answer _ _ (bytes_decides x y) (
      λ e. same_chars x y u v ((bytes_decides (chars x) (chars y)).0 e),
      λ e. (bytes_decides (chars x) (chars y)).1 (ap chars e),
    )

pub returns : goal.returns
returns g c = rw (← c.as_str.ensures, ← c.as_str-2.ensures)
    (c.eq.ensures ∙ text_eq-chars _ _ c.as_str.utf8 c.as_str-2.utf8)
