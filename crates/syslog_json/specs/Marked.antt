-- The object of a line that is not UTF-8, which says so: this project's own choice.
use Rattle.std.specs.Prelude.{◌≡◌, ◌-◌, ℕ, Bool, true, false, List, [], ◌∷◌, ◌++◌, codes, length, take}
use Rattle.json.specs.Json.{Json, null, boolean, number, string, array, object}
use Rattle.json.specs.Json.{Members, no_members, member}

-- the members, and one more after them
abbrev pub and_member : Members → List ℕ → Json → Members
and_member no_members key value = member key value no_members
and_member (member k j ms) key value = member k j (and_member ms key value)

-- an object with one more member, `"invalid_utf8":true`, at its end
abbrev pub marked : Json → Json
marked null = null
marked (boolean b) = boolean b
marked (number s) = number s
marked (string s) = string s
marked (array js) = array js
marked (object ms) = object (and_member ms (codes "invalid_utf8") (boolean true))

-- the value, which is marked if parts of the line were replaced
abbrev pub marked_if : Bool → Json → Json
marked_if false value = value
marked_if true value = marked value

-- how the text of an object that is marked ends: its JSON, or its row of CSV, whose last cell is that of the mark
abbrev pub mark_text : Bool → List ℕ
mark_text false = codes ",\"invalid_utf8\":true}"
mark_text true = codes "true\r"

-- the text of an object that is marked, by the text of the object, which ends in a brace or CR
abbrev pub marked_text : Bool → List ℕ → List ℕ
marked_text csv bytes = take (length bytes - 1) bytes ++ mark_text csv

-- the line of an object that is marked, by the line of the object
abbrev pub marked_line : Bool → List ℕ → List ℕ
marked_line csv bytes = take (length bytes - 2) bytes ++ (mark_text csv ++ 10 ∷ [])

-- the same, if there is one
abbrev pub marked_output : Bool → List ℕ → List ℕ
marked_output csv [] = []
marked_output csv (byte ∷ bytes) = marked_line csv (byte ∷ bytes)

-- the value is an object with members
abbrev pub HasMember : Json → Type 0
HasMember value = (key : List ℕ) × (first : Json) × (members : Members) × (value ≡ object (member key first members))
