-- Check Point's parameters, `name:"value"` with `;` between two, in brackets: the format `syslog` of its Log Exporter
-- (sk122323), in which quotes, backslashes and brackets of values are escaped as RFC 5424 has it. There is no id. The
-- id of the element that they mean is this project's own choice: 2620 is Check Point's number among IANA's enterprises.
--
-- 34 is `"`, 58 `:`, 59 `;`, 91 `[`, 93 `]`.
use Rattle.std.specs.Prelude.{◌≡◌, ◌⊎◌, ◌<◌, ℕ, List, [], ◌∷◌, length, Option, None, Some, chars, codes}
use Rattle.syslog_text.specs.Pieces.Class.{Text, Class, Values, Each, Ends, Front, NoFront, Row, exactly, mapped}
use Rattle.syslog_text.specs.{Pieces.Class.some_run, Pieces.Class.texted, Text.is_blank, Text.is_tag_char}
use Rattle.syslog_text.specs.{Pieces.Lists.many, Pieces.Rules.such_that, Text.CharClass.is_sd_name_char}
use Rattle.syslog_elements.specs.Bodies.Closing.{inside, inside_row, quoted}
use Rattle.syslog_elements.specs.StructuredData.{param, Element.ElementValue, Rfc3164List.IsDashBefore}
use Rattle.syslog_elements.specs.declared.structured_data.pairs.Notation.{Notation}
use Rattle.syslog_elements.specs.declared.structured_data.pairs.Notation.TheVariants.{Colons, Equals}
use Rattle.syslog_elements.specs.declared.structured_data.rfc3164_list.DashRule.TheVariants.{BeforeBlank}

-- a name: the characters of an SD-NAME (RFC 5424 §6.3.2) up to a colon
abbrev pub IsSdName : Text → Type 0
IsSdName name = Each is_sd_name_char name

abbrev pub pair_name : Class
pair_name = such_that (texted (some_run is_tag_char)) IsSdName

-- `;` and blanks, or nothing before the bracket
abbrev pub EndsPair : Text → Text → Type 0
EndsPair p q = ((blanks : Text) × (p ≡ 59 ∷ blanks) × Each is_blank blanks × Ends is_blank q)
    ⊎ ((p ≡ []) × ((r : Text) × (q ≡ 93 ∷ r)))

abbrev pub pair_end : Class
pair_end = record { Value = Unit {0}; Is = λ p q _. EndsPair p q }

-- `name:"value"`, and what ends it
abbrev pub pair_row : List Class
pair_row = pair_name ∷ exactly (58 ∷ []) ∷ exactly (34 ∷ []) ∷ quoted ∷ pair_end ∷ []

abbrev pub pair_of : Values pair_row → Text × Text
pair_of (name, (_, (_, (value, _)))) = (name, value.0)

abbrev pub pair : Class
pair = mapped (Row pair_row) (Text × Text) pair_of

-- pairs, and the bracket that closes them
abbrev pub pairs_row : List Class
pairs_row = many pair ∷ exactly (93 ∷ []) ∷ []

abbrev pub pairs : Class
pairs = Row pairs_row

-- ---- the element

abbrev pub pair_id : Text
pair_id = codes "checkpoint@2620"

abbrev pub paired_element : List (Text × Text) → ElementValue
paired_element params = record { id = pair_id; params = params }

abbrev pub open_row : List Class
open_row = exactly (91 ∷ []) ∷ pairs ∷ []

-- `[`, a pair or more, `]`, at the end of the text or before a blank; it means a list of one element
abbrev pub IsPaired : Text → Text → List ElementValue → Type 0
IsPaired p q es = (vs : Values open_row) × (Row open_row).Is p q vs × (0 < length vs.1.0.0) × IsDashBefore BeforeBlank q
    × (es ≡ paired_element vs.1.0.0 ∷ [])

abbrev pub paired : Class
paired = record { Value = List ElementValue; Is = IsPaired }

-- ---- what a recognised list holds: its own text; or none, and pairs

-- the pairs
abbrev pub pairs_in : List ℕ → List ℕ → Text
pairs_in [] unparsed = chars unparsed
pairs_in (b ∷ text) unparsed = []

-- what is left of its text
abbrev pub left_in : List ℕ → List ℕ → Text
left_in [] unparsed = []
left_in (b ∷ text) unparsed = chars unparsed

-- the elements, of which those of pairs come first
abbrev pub with_pairs : Option (Values pairs_row) → List ElementValue → List ElementValue
with_pairs None es = es
with_pairs (Some vs) es = paired_element vs.0 ∷ es

-- ---- parameters in one notation or the other

abbrev pub IsInside : Notation → Text → Text → Values inside_row → Type 0
IsInside Equals p q vs = inside.Is p q vs
IsInside Colons p q vs = pairs.Is p q vs

-- from the first parameter of an element to its end
abbrev pub inside_of : Notation → Class
inside_of notation = record { Value = Values inside_row; Is = IsInside notation }

-- the text after a parameter, and that after the separator which follows it, if any
abbrev pub IsNext : Text → Text → Type 0
IsNext u z = (u ≡ 32 ∷ z) ⊎ (NoFront (exactly (32 ∷ [])) u × (u ≡ z))

-- a parameter begins the text, and the other text is after it and its separator
abbrev pub IsNextParam : Notation → Text → Text × Text → Text → Type 0
IsNextParam Equals t v z = (u : Text) × Front param t u v × IsNext u z
IsNextParam Colons t v z = Front pair t z v

abbrev pub NoNextParam : Notation → Text → Type 0
NoNextParam Equals t = NoFront param t
NoNextParam Colons t = NoFront pair t
