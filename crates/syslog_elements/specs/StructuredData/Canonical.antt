-- Elements that are read back from their printed text, in which each value is as it is.
use Rattle.std.specs.Prelude.{◌<◌, ⊤, List, [], ◌∷◌, length}
use Rattle.std.specs.List.{AllByRecursion}
use Rattle.syslog_text.specs.Pieces.Class.{Text, Each, Ends}
use Rattle.syslog_elements.specs.StructuredData.{IsValue, Element.ElementValue}
use Rattle.syslog_text.specs.Text.{is_blank, CharClass.is_id_char, CharClass.is_name_char}

-- the name is nonempty, without `]` and `=`, and the value is a list of units
abbrev pub IsCanonicalParam : Text × Text → Type 0
IsCanonicalParam p = (0 < length p.0) × Each is_name_char p.0 × IsValue p.1

-- the first name does not begin with a blank
abbrev pub BeginsUnblank : List (Text × Text) → Type 0
BeginsUnblank [] = ⊤
BeginsUnblank (p ∷ ps) = Ends is_blank p.0

-- the id is nonempty, without white space, `]` and `=`
abbrev pub IsCanonicalElement : ElementValue → Type 0
IsCanonicalElement e = (0 < length e.id) × Each is_id_char e.id × AllByRecursion IsCanonicalParam e.params
    × BeginsUnblank e.params
