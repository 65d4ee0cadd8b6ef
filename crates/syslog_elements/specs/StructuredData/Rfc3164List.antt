-- The list of RFC 3164, which holds elements with parameters alone, and before which texts a dash is such a list. (All
-- of it is this project's own choice.)
use Rattle.std.specs.Prelude.{◌≡◌, ◌<◌, ◌⊎◌, ⊤, true, List, [], ◌∷◌, length, Option, unwrap_or}
use Rattle.syslog_text.specs.Pieces.Class.{Text, Class, NoFront}
use Rattle.syslog_text.specs.{Pieces.Lists.many, Text.is_blank, Text.dash}
use Rattle.syslog_elements.specs.StructuredData.{element, Element.ElementValue}
use Rattle.syslog_elements.specs.declared.structured_data.rfc3164_list.DashRule.{DashRule, TheVariants.BeforeBlank}
use Rattle.syslog_elements.specs.declared.structured_data.rfc3164_list.DashRule.TheVariants.{BeforeAnything}

-- a strict element with a parameter
abbrev pub full_element : Class
full_element = record { Value = ElementValue; Is = λ p q e. element.Is p q e × (0 < length e.params) }

-- whether a dash is a list before this text: before each, or only at the end and before a blank
abbrev pub IsDashBefore : DashRule → Text → Type 0
IsDashBefore BeforeAnything q = ⊤
IsDashBefore BeforeBlank [] = ⊤
IsDashBefore BeforeBlank (c ∷ cs) = is_blank c ≡ true

-- `-` where the rule allows it, or one or more strict elements with parameters, as many as there are
abbrev pub IsRfc3164List : DashRule → Text → Text → List ElementValue → Type 0
IsRfc3164List rule p q es = ((p ≡ dash) × IsDashBefore rule q × (es ≡ []))
    ⊎ ((0 < length es) × (many full_element).Is p q es)

-- the list of RFC 3164
abbrev pub rfc3164_list : DashRule → Class
rfc3164_list rule = record { Value = List ElementValue; Is = IsRfc3164List rule }

-- the text begins neither with a dash that is a list, nor with a strict element that has a parameter
abbrev pub BeginsNoList : DashRule → Text → Type 0
BeginsNoList rule text = ((q : Text) → text ≡ 45 ∷ q → IsDashBefore rule q → ⊥) × NoFront full_element text

-- the elements of a list that may be absent
abbrev pub elements_or : Option (List ElementValue) → List ElementValue
elements_or es = unwrap_or es []
