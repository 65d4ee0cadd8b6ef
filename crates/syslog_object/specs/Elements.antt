-- The text of the object of elements.
use Rattle.std.specs.Prelude.{◌≡◌, ℕ, List, [], ◌∷◌, MatchOption, map}
use Rattle.syslog_elements.specs.StructuredData.Element.{ElementValue}
use Rattle.syslog_object.specs.Gathered.{gathered}
use Rattle.syslog_object.specs.Object.{element_pair, structured_json}
use Rattle.syslog_object.specs.Parts.{compact_text}
use Rattle.syslog_object.specs.Written.{IsTextOf}

-- the text of the object of these elements; nothing where there are none
abbrev pub IsStructuredText : List ElementValue → List ℕ → Type 0
IsStructuredText elements bytes = MatchOption (structured_json elements) (bytes ≡ []) (λ value. IsTextOf value bytes)

-- it, as it is written
abbrev pub elements_text : List ElementValue → List ℕ
elements_text [] = []
elements_text (e ∷ es) = compact_text (gathered (map element_pair (e ∷ es)))
