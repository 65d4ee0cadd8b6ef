-- What is left unparsed of a list (this project's own choice).
use Rattle.std.specs.Prelude.{◌≡◌, ◌≢◌, ◌⊎◌, List, [], ◌∷◌, Option, Some, None}
use Rattle.syslog_text.specs.{Pieces.Class.Text, Pieces.Class.Class, Pieces.Class.Front, Pieces.Lists.many, Text.dash}
use Rattle.syslog_elements.specs.StructuredData.{element, forgiving, Element.ElementValue}

-- strict elements begin the list's own text, as many as there are, and this is after them; nothing is left of `-`
abbrev pub FollowsStrict : Text → Text → Type 0
FollowsStrict list unparsed = ((list ≡ dash) × (unparsed ≡ []))
    ⊎ ((list ≢ dash) × ((es : List ElementValue) × Front (many element) list unparsed es))

-- What is left of a list's own text after the strict elements that begin it: nothing where each element is strict, and
-- nothing of `-`. So each broken element is in it, and so is a strict one after the first of them, which is parsed too.
-- (It says that there are such elements, not which.)
abbrev pub IsUnparsed : Text → Text → Type 0
IsUnparsed list unparsed = ∥ FollowsStrict list unparsed ∥₁

-- the list that forgives broken elements, which means what is left unparsed of it
abbrev pub leaving : Class
leaving = record {
  Value = Text;
  Is = λ p q unparsed. ((es : List ElementValue) × forgiving.Is p q es) × IsUnparsed p unparsed;
}

-- a text, absent where it is empty
abbrev pub if_any : Text → Option Text
if_any [] = None
if_any (c ∷ t) = Some (c ∷ t)
