-- Structured data: values, parameters, strict and broken elements, and the list that forgives the broken ones
-- (RFC 5424 section 6.3; what it forgives is this project's own choice).
pub mod Element
pub mod Equal
pub mod EqualLaws
pub mod Escapes
pub mod Recognised
pub mod Rfc3164List
pub mod Params
pub mod Pairs
pub mod Canonical
pub mod Collected
pub mod Unparsed
pub mod Visited
use Rattle.std.specs.Prelude.{◌≡◌, ◌≢◌, ◌<◌, ◌⊎◌, List, [], ◌∷◌, ◌++◌, filter_map, length, Option, Some, None}
use Rattle.std.specs.List.{flat_map, AllByRecursion}
use Rattle.syslog_text.specs.Text.CharClass.{is_name_char, is_id_char, is_open_char}
use Rattle.syslog_text.specs.Pieces.Class.{Text, Class, Values, Front, NoFront, Row, run, some_run, exactly, mapped}
use Rattle.syslog_text.specs.{Pieces.Class.texted, Text.is_blank, Text.dash}
use Rattle.syslog_elements.specs.StructuredData.Element.{ElementValue}
use Rattle.syslog_elements.specs.StructuredData.Escapes.{TextUnit, pair, single, unit_text}
use Rattle.syslog_text.specs.Pieces.Lists.{many, list_before}

-- a unit of a value: a single character is neither a backslash nor a quote
abbrev pub IsValueUnit : TextUnit → Type 0
IsValueUnit (pair c) = Unit {0}
IsValueUnit (single c) = (c ≢ 92) × (c ≢ 34)

-- a text of such units
abbrev pub IsValue : Text → Type 0
IsValue p = (units : List TextUnit) × (p ≡ flat_map unit_text units) × AllByRecursion IsValueUnit units

-- a value before the quote that closes it
abbrev pub value : Class
value = record { Value = Text; Is = λ p q v. IsValue p × ((r : Text) × (q ≡ 34 ∷ r)) × (v ≡ p) }

-- `name="value"`, where blanks may be after the equals sign
abbrev pub param_row : List Class
param_row = texted (some_run is_name_char) ∷ exactly (61 ∷ []) ∷ run is_blank ∷ exactly (34 ∷ []) ∷ value
    ∷ exactly (34 ∷ []) ∷ []

-- what it means: its name and its value
abbrev pub param_of : Values param_row → Text × Text
param_of (name, (_, (_, (_, (v, (_, _)))))) = (name, v)

-- a parameter
abbrev pub param : Class
param = mapped (Row param_row) (Text × Text) param_of

-- `[id`, blanks or none, parameters with one space between two, `]`
abbrev pub element_row : List Class
element_row =
    exactly (91 ∷ []) ∷ texted (some_run is_id_char) ∷ run is_blank ∷ list_before param 32 93 ∷ exactly (93 ∷ []) ∷ []

-- what it means: its id and its parameters
abbrev pub element_of : Values element_row → ElementValue
element_of (_, (id, (_, (params, (_, _))))) = record { id = id; params = params }

-- a strict element
abbrev pub element : Class
element = mapped (Row element_row) ElementValue element_of

-- `[`, characters other than `]`, `]`
abbrev pub bracketed : Class
bracketed = Row (exactly (91 ∷ []) ∷ run is_open_char ∷ exactly (93 ∷ []) ∷ [])

-- a strict element; or a broken one, only where no strict element begins
abbrev pub IsItem : Text → Text → Option ElementValue → Type 0
IsItem p q (Some e) = element.Is p q e
IsItem p q None = NoFront element (p ++ q) × bracketed.Is p q (tt, (tt, (tt, tt)))

-- an item of a list: a strict element, or a broken one as `None`
abbrev pub item : Class
item = record { Value = Option ElementValue; Is = IsItem }

-- the strict elements among items, in order
abbrev pub strict : List (Option ElementValue) → List ElementValue
strict items = filter_map (λ item. item) items

-- `-`, or one or more items, as many as there are; the broken ones are left out of the meaning
abbrev pub IsForgiving : Text → Text → List ElementValue → Type 0
IsForgiving p q es = ((p ≡ dash) × (es ≡ []))
    ⊎ ((items : List (Option ElementValue)) × (0 < length items) × (many item).Is p q items × (es ≡ strict items))

-- the list of elements that forgives broken ones
abbrev pub forgiving : Class
forgiving = record { Value = List ElementValue; Is = IsForgiving }

-- the text begins with no such list, or with one that has no strict element
abbrev pub NeedsNoMemory : Text → Type 0
NeedsNoMemory text = (q : Text) (es : List ElementValue) → Front forgiving text q es → es ≡ []
