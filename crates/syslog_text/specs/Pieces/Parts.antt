-- Texts that are parts of other texts.
use Rattle.std.specs.Prelude.{◌≡◌, ◌⊎◌, List, [], ◌∷◌, ◌++◌, Option, Some, None}
use Rattle.std.specs.List.{AllByRecursion}
use Rattle.syslog_text.specs.Pieces.Class.{Text}

-- the text is the piece, or a part of it
abbrev pub IsPart : Text → Text → Type 0
IsPart piece text = (before : Text) × (after : Text) × (piece ≡ before ++ (text ++ after))

-- the text is one of the pieces, or a part of one
abbrev pub IsInPieces : List Text → Text → Type 0
IsInPieces [] text = ⊥
IsInPieces (p ∷ ps) text = IsPart p text ⊎ IsInPieces ps text

-- each of the texts is
abbrev pub AreInPieces : List Text → List Text → Type 0
AreInPieces pieces texts = AllByRecursion (λ t. IsInPieces pieces t) texts

-- a text that may be absent, as a list
abbrev pub text_list : Option Text → List Text
text_list None = []
text_list (Some t) = t ∷ []
