use Rattle.std.proofs.Common.{◌≡◌, ◌∙◌, ℕ, Bool, true, List, ap, sym}
use Rattle.std.specs.Prelude.{IsUtf8, encode_utf8_all}
use Rattle.std.specs.Str.{bytes_eq, chars}
use Rattle.std.proofs.lemmas.{Slice.Eq.bytes_eq-Decides, Str.encodes-chars}
use Rattle.syslog_choice.proofs.is_same.Goals as goal

-- texts are the same by their bytes as by their characters
same_bytes : (a b : List ℕ) → IsUtf8 a → IsUtf8 b → chars a ≡ chars b → a ≡ b
same_bytes a b valid other e = sym (encodes-chars a valid) ∙ ap encode_utf8_all e ∙ encodes-chars b other

same_text : (a b : List ℕ) (r : Bool) → IsUtf8 a → IsUtf8 b → r ≡ bytes_eq a b
    → (r ≡ true → chars a ≡ chars b) × (chars a ≡ chars b → r ≡ true)
same_text a b r valid other is = (
  λ t. ap chars ((bytes_eq-Decides a b).0 (sym is ∙ t)),
  λ e. is ∙ (bytes_eq-Decides a b).1 (same_bytes a b valid other e),
)

pub returns : goal.returns
returns c = same_text c.args.name.now c.args.given.now c.eq.result c.utf8.name c.utf8.given c.eq.ensures
