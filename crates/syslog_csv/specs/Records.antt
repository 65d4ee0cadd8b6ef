-- Records of CSV, by the grammar of RFC 4180, and how they are written. Its TEXTDATA is ASCII that can be printed;
-- here it is every byte that is no mark.
use Rattle.std.specs.Prelude.{◌≡◌, ◌⊎◌, ◌==◌, ◌||◌, ℕ, Bool, false, if◌then◌else◌, List, [], ◌∷◌, ◌++◌}
use Rattle.std.specs.List.{flat_map, list_any}

-- a quote, a comma, CR or LF
abbrev pub is_mark : ℕ → Bool
is_mark byte = (((byte == 34) || (byte == 44)) || (byte == 13)) || (byte == 10)

-- each quote twice
abbrev pub doubled : List ℕ → List ℕ
doubled [] = []
doubled (byte ∷ bytes) = if byte == 34 then 34 ∷ 34 ∷ doubled bytes else byte ∷ doubled bytes

abbrev pub quoted : List ℕ → List ℕ
quoted field = 34 ∷ (doubled field ++ (34 ∷ []))

-- ---- the grammar: what a text means

-- field = escaped / non-escaped
abbrev pub IsField : List ℕ → List ℕ → Type 0
IsField text field = (text ≡ quoted field) ⊎ ((text ≡ field) × (list_any is_mark field ≡ false))

-- *(COMMA field)
abbrev pub AreLaterFields : List ℕ → List (List ℕ) → Type 0
AreLaterFields text [] = text ≡ []
AreLaterFields text (field ∷ fields) = (first : List ℕ) × (rest : List ℕ) × (text ≡ 44 ∷ (first ++ rest))
    × IsField first field × AreLaterFields rest fields

-- record = field *(COMMA field)
abbrev pub IsRecord : List ℕ → List (List ℕ) → Type 0
IsRecord text [] = ⊥
IsRecord text (field ∷ fields) = (first : List ℕ) × (rest : List ℕ) × (text ≡ first ++ rest)
    × IsField first field × AreLaterFields rest fields

-- the text is a record of these fields, and of no others
abbrev pub IsOnlyRecord : List ℕ → List (List ℕ) → Type 0
IsOnlyRecord text fields =
    IsRecord text fields × ((others : List (List ℕ)) → IsRecord text others → others ≡ fields)

-- file = *(record CRLF)
abbrev pub AreRecords : List ℕ → List (List (List ℕ)) → Type 0
AreRecords text [] = text ≡ []
AreRecords text (record_fields ∷ records) = (first : List ℕ) × (rest : List ℕ)
    × (text ≡ first ++ (13 ∷ 10 ∷ rest)) × IsRecord first record_fields × AreRecords rest records

-- ---- what is written

-- a field is between quotes where it has a mark
abbrev pub field_text : List ℕ → List ℕ
field_text field = if list_any is_mark field then quoted field else field

abbrev pub record_text : List (List ℕ) → List ℕ
record_text [] = []
record_text (field ∷ fields) = field_text field ++ flat_map (λ later. 44 ∷ field_text later) fields

-- these fields were added after others
pub record AddsFields (old new : List ℕ) (fields : List (List ℕ)) : Type 0 where
  pub added : new ≡ old ++ flat_map (λ later. 44 ∷ field_text later) fields
