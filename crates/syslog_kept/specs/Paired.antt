-- Check Point's element, as parts of a message and in an object.
use Rattle.std.specs.Prelude.{List, [], ◌∷◌}
use Rattle.json.specs.Json.{Json}
use Rattle.syslog_text.specs.Pieces.Class.{Text}
use Rattle.syslog_elements.specs.StructuredData.Pairs.{paired_element}
use Rattle.syslog_kept.specs.Elements.{HasElements}
use Rattle.syslog_kept.specs.Part.{AreParts, Part, blanks, either, this}

-- `;` and blanks, or nothing
abbrev pub pair_end : Part
pair_end = either (this []) (AreParts (this (59 ∷ []) ∷ blanks ∷ []))

-- a name, a colon, a value between quotes, and what ends the pair
abbrev pub pair : Text × Text → Part
pair p = AreParts (this p.0 ∷ this (58 ∷ []) ∷ this (34 ∷ []) ∷ AreParts (this p.1 ∷ this (34 ∷ []) ∷ []) ∷ pair_end ∷
    [])

-- pairs one after the other
abbrev pub pairs : List (Text × Text) → Part
pairs [] = this []
pairs (p ∷ ps) = AreParts (pair p ∷ pairs ps ∷ [])

-- `[`, pairs, `]`, which the object has as its one element
abbrev pub paired : Json → Part
paired o = λ text. (ps : List (Text × Text)) × HasElements o (paired_element ps ∷ [])
    × AreParts (this (91 ∷ []) ∷ AreParts (pairs ps ∷ this (93 ∷ []) ∷ []) ∷ []) text
