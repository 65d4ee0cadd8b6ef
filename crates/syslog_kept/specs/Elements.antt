-- Elements of structured data, as parts of a text and in an object.
use Rattle.std.specs.Prelude.{◌≡◌, ℕ, List, [], ◌∷◌, ◌++◌, Option, Some, None, codes, encode_utf8_all}
use Rattle.std.specs.List.{AllZip}
use Rattle.json.specs.Find.{get}
use Rattle.json.specs.Json.{Json, array}
use Rattle.json.specs.Value.{items_of}
use Rattle.syslog_text.specs.Pieces.Class.{Text}
use Rattle.syslog_elements.specs.StructuredData.Element.{ElementValue}
use Rattle.syslog_elements.specs.StructuredData.Escapes.{IsUnescaped}
use Rattle.syslog_object.specs.Gathered.{values_at}
use Rattle.syslog_object.specs.Object.{text_json}
use Rattle.syslog_kept.specs.Part.{AreParts, Part, blanks, dash_at, either, maybe, text_at, this}

-- ---- in a text

-- a name, `=`, blanks, and a value between quotes
abbrev pub param : Text × Text → Part
param pair = AreParts (this pair.0 ∷ this (61 ∷ []) ∷ blanks ∷ this (34 ∷ []) ∷ this pair.1 ∷ this (34 ∷ []) ∷ [])

-- parameters with one space between two
abbrev pub params : List (Text × Text) → Part
params [] = this []
params (p ∷ []) = param p
params (p ∷ r ∷ ps) = AreParts (param p ∷ this (32 ∷ []) ∷ params (r ∷ ps) ∷ [])

-- `[`, an id, blanks, parameters, `]`
abbrev pub element : ElementValue → Part
element e = AreParts (this (91 ∷ []) ∷ this e.id ∷ blanks ∷ params e.params ∷ this (93 ∷ []) ∷ [])

-- elements one after the other
abbrev pub elements : List ElementValue → Part
elements [] = this []
elements (e ∷ es) = AreParts (element e ∷ elements es ∷ [])

-- ---- in an object

-- no value; a value alone; or an array of all values, in order
abbrev pub one_or_array : List Json → Option Json
one_or_array [] = None
one_or_array (v ∷ []) = Some v
one_or_array (v ∷ w ∷ vs) = Some (array (items_of (v ∷ w ∷ vs)))

-- the object has at each key the values that these members have there, and nothing at any other key
abbrev pub HasAll : Json → List (List ℕ × Json) → Type 0
HasAll o members = (key : List ℕ) → get key o ≡ one_or_array (values_at key members)

-- the name of the parameter, and its value without escapes
abbrev pub IsParamMember : Text × Text → List ℕ × Json → Type 0
IsParamMember pair m =
    (m.0 ≡ encode_utf8_all pair.0) × ((bare : Text) × IsUnescaped pair.1 bare × (m.1 ≡ text_json bare))

-- the id of the element, and an object that has its parameters
abbrev pub IsElementMember : ElementValue → List ℕ × Json → Type 0
IsElementMember e m = (m.0 ≡ encode_utf8_all e.id)
    × ((members : List (List ℕ × Json)) × AllZip IsParamMember e.params members × HasAll m.1 members)

-- the object has these elements, and no others
abbrev pub HasElements : Json → List ElementValue → Type 0
HasElements o [] = get (codes "structured_data") o ≡ None
HasElements o (e ∷ es) = (data_of : Json) × (members : List (List ℕ × Json))
    × (get (codes "structured_data") o ≡ Some data_of) × AllZip IsElementMember (e ∷ es) members
    × HasAll data_of members

-- Elements that the object has, and then the very text that it has as unparsed, where more of its elements may be. Or
-- `-`, and the object has none.
abbrev pub structured_data : Json → Part
structured_data o = either (dash_at o (codes "structured_data"))
    (λ p. (es : List ElementValue) × (more : List ElementValue) × HasElements o (es ++ more)
    × AreParts (elements es ∷ maybe (text_at o (codes "unparsed_structured_data")) ∷ []) p)
