-- The parts of a text: each is left out of an object, or is found in it.
use Rattle.std.specs.Prelude.{◌≡◌, ◌⊎◌, ℕ, List, [], ◌∷◌, ◌++◌, Some, None}
use Rattle.std.specs.Char.{is_whitespace}
use Rattle.syslog_text.specs.Pieces.Class.{Text, Each}
use Rattle.syslog_text.specs.Text.{dash, is_blank}
use Rattle.json.specs.Json.{Json}
use Rattle.json.specs.Find.{get}
use Rattle.syslog_object.specs.Object.{text_json}

-- what a part of a text may be
abbrev pub Part : Type 1
Part = Text → Type 0

-- the text is these parts, one after the other
abbrev pub AreParts : List Part → Text → Type 0
AreParts [] text = text ≡ []
AreParts (P ∷ Ps) text = (p : Text) × (q : Text) × (text ≡ p ++ q) × P p × AreParts Ps q

-- one part or another
abbrev pub either : Part → Part → Part
either P Q = λ p. P p ⊎ Q p

-- ---- what is left out

-- this text
abbrev pub this : Text → Part
this text = λ p. p ≡ text

-- white space at an end of the line
abbrev pub white_space : Part
white_space = λ p. Each is_whitespace p

-- spaces and tabs between two parts
abbrev pub blanks : Part
blanks = λ p. Each is_blank p

-- no text, or this part
abbrev pub maybe : Part → Part
maybe P = either (this []) P

-- ---- what is found

-- the very text that the object has at the key
abbrev pub text_at : Json → List ℕ → Part
text_at o key = λ p. get key o ≡ Some (text_json p)

-- `-`, and the object lacks the key
abbrev pub dash_at : Json → List ℕ → Part
dash_at o key = λ p. (p ≡ dash) × (get key o ≡ None)

-- the very text that the object has at the key, or `-`, and it lacks the key
abbrev pub name_at : Json → List ℕ → Part
name_at o key = either (dash_at o key) (text_at o key)
