-- The units of a text, and the removal of escapes.
use Rattle.std.specs.Prelude.{◌≡◌, ◌≢◌, ℕ, Bool, true, false, nat_eq, ◌||◌, if◌then◌else◌, List, [], ◌∷◌, ◌++◌}
use Rattle.std.specs.List.{flat_map, AllByRecursion}
use Rattle.syslog_text.specs.Pieces.Class.{Text}

-- a unit of a text: a backslash and the character after it, or another character
pub data TextUnit : Type 0 where
  pair : ℕ → TextUnit
  single : ℕ → TextUnit

-- the text of a unit
abbrev pub unit_text : TextUnit → Text
unit_text (pair c) = 92 ∷ c ∷ []
unit_text (single c) = c ∷ []

-- a single character is no backslash
abbrev pub IsUnit : TextUnit → Type 0
IsUnit (pair c) = Unit {0}
IsUnit (single c) = c ≢ 92

-- no single character is a quote
abbrev pub IsUnquoted : TextUnit → Type 0
IsUnquoted (pair c) = Unit {0}
IsUnquoted (single c) = c ≢ 34

-- a last backslash that has no character after it, or nothing
abbrev pub lone_backslash : Bool → Text
lone_backslash true = 92 ∷ []
lone_backslash false = []

-- the text is these units, and then perhaps a lone backslash
pub record SplitsUnits (text : Text) (units : List TextUnit) (lone : Bool) : Type 0 where
  pub whole : text ≡ flat_map unit_text units ++ lone_backslash lone
  pub each : AllByRecursion IsUnit units

-- a backslash, a quote and a closing bracket are escaped
abbrev pub is_escaped : ℕ → Bool
is_escaped c = nat_eq c 92 || (nat_eq c 34 || nat_eq c 93)

-- a pair means a line feed, or its second character where that is escaped, or otherwise itself
abbrev pub pair_meaning : ℕ → Text
pair_meaning c = if nat_eq c 110 then 10 ∷ [] else (if is_escaped c then c ∷ [] else 92 ∷ c ∷ [])

-- what a unit means
abbrev pub unit_meaning : TextUnit → Text
unit_meaning (pair c) = pair_meaning c
unit_meaning (single c) = c ∷ []

-- the text without its escapes: what its units mean; a lone backslash means nothing
pub record IsUnescaped (text unescaped : Text) : Type 0 where
  pub units : List TextUnit
  pub lone : Bool
  pub split : SplitsUnits text units lone
  pub means : unescaped ≡ flat_map unit_meaning units

-- without its escapes the text is this front, and then the rest without its escapes
pub record MeansFirst (text front rest : Text) : Type 0 where
  pub on : (unescaped : Text) → IsUnescaped rest unescaped → IsUnescaped text (front ++ unescaped)

-- a character, after a backslash where it is escaped
abbrev pub escaped_char : ℕ → Text
escaped_char c = if is_escaped c then 92 ∷ c ∷ [] else c ∷ []

-- the text with a backslash before each backslash, quote and closing bracket
abbrev pub escaped : Text → Text
escaped text = flat_map escaped_char text
