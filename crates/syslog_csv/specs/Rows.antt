-- The row of a line: this project's own choice.
use Rattle.std.specs.Prelude.{◌≡◌, ℕ, List, [], ◌∷◌, ◌++◌, Option, Some, None, codes, map}
use Rattle.json.specs.Find.{get}
use Rattle.json.specs.Json.{Json, null, boolean, number, string, array, object}
use Rattle.json.specs.Print.{print}
use Rattle.json.specs.Tree.{json_tokens}
use Rattle.syslog_csv.specs.Records.{IsOnlyRecord, record_text}

-- the keys of an object, in their order
abbrev pub columns : List (List ℕ)
columns =
    codes "protocol" ∷ codes "version" ∷ codes "dialect" ∷ codes "facility" ∷ codes "facility_code" ∷ codes "severity"
    ∷ codes "severity_code" ∷ codes "timestamp" ∷ codes "hostname" ∷ codes "appname" ∷ codes "procid" ∷ codes "msgid"
    ∷ codes "structured_data" ∷ codes "unparsed_structured_data" ∷ codes "message" ∷ codes "raw" ∷ codes "refused"
    ∷ codes "invalid_utf8" ∷ []

-- a text as it is, and any other value as its JSON
abbrev pub value_text : Json → List ℕ
value_text null = print (json_tokens null)
value_text (boolean b) = print (json_tokens (boolean b))
value_text (number s) = print (json_tokens (number s))
value_text (string s) = s
value_text (array js) = print (json_tokens (array js))
value_text (object ms) = print (json_tokens (object ms))

-- nothing where there is no value
abbrev pub cell_of : Option Json → List ℕ
cell_of None = []
cell_of (Some value) = value_text value

-- what the object has at each key
abbrev pub cells_of : Json → List (List ℕ)
cells_of value = map (λ column. cell_of (get column value)) columns

-- the bytes are the row of the object, with its CR, and the row is a record of these cells alone
pub record IsRowOf (value : Json) (bytes : List ℕ) : Type 0 where
  pub text : bytes ≡ record_text (cells_of value) ++ (13 ∷ [])
  pub read_back : IsOnlyRecord (record_text (cells_of value)) (cells_of value)
