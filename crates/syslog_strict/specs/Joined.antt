-- The parameters of elements by id.
use Rattle.std.specs.Prelude.{◌≡◌, [], ◌∷◌, ◌++◌, List, Option, Some, None, is_some, map, string_bytes, String}
use Rattle.std.specs.BTreeMap.{get_by_text}
use Rattle.std.specs.Global.{Global}
use Rattle.std.specs.List.{flat_map}
use Rattle.std.specs.Prelude.{ℕ}
use Rattle.std.specs.Str.{chars, IsUtf8}
use Rattle.syslog_text.specs.Pieces.Class.{Text}
use Rattle.syslog_elements.specs.StructuredData.Element.{ElementValue, param_text}
use Rattle.syslog_strict.specs.Conversion.{firsts, is_among, params_of}
use Rattle.syslog_strict.specs.Grammar.{ids_of}
use Rattle.syslog_strict.specs.Pushing.{text_in}
use Rattle.syslog_strict.specs.declared.joined.Joined.{Joined}

-- the text, or none
abbrev pub text_or_none : Option (String Global) → Text
text_or_none None = []
text_or_none (Some s) = text_in s

-- it has the ids of these elements, and the parameters of those with each id as they are written
pub record HasJoined (joined : Joined) (seen : List ElementValue) : Type 0 where
  pub ids : map (λ s. text_in s) joined.ids.items ≡ firsts (ids_of seen)
  pub known : (id : List ℕ) → IsUtf8 id → is_some (get_by_text joined.params id) ≡ is_among (chars id) (ids_of seen)
  pub params : (id : List ℕ) → IsUtf8 id
      → text_or_none (get_by_text joined.params id) ≡ flat_map param_text (params_of (chars id) seen)

-- an element of each id
abbrev pub joined_text : Joined → Text
joined_text joined = flat_map (λ id. 91 ∷ (text_in id
    ++ (text_or_none (get_by_text joined.params (string_bytes id)) ++ (93 ∷ []))))
    joined.ids.items
