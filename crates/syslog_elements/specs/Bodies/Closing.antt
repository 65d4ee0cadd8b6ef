-- The parts of a strict element between its brackets, and what must follow inside a value so that its element closes:
-- the words of the linear walk.
use Rattle.std.specs.Prelude.{◌≡◌, ℕ, ◌≤◌, List, [], ◌∷◌, ◌++◌, length}
use Rattle.std.specs.Str.{encode_utf8_all}
use Rattle.syslog_text.specs.Text.CharClass.{is_name_char, is_id_char}
use Rattle.syslog_text.specs.Pieces.Class.{Text, Class, Values, NoFront, Row, run, some_run, exactly, texted}
use Rattle.syslog_elements.specs.StructuredData.{value, param, Escapes.TextUnit, Escapes.pair, Escapes.single}
use Rattle.syslog_text.specs.{Pieces.Lists.list_before, Pieces.Lists.more_before, Text.is_blank}

-- an element up to its parameters
abbrev pub start_row : List Class
start_row = exactly (91 ∷ []) ∷ texted (some_run is_id_char) ∷ run is_blank ∷ []

-- that row, as a class
abbrev pub start : Class
start = Row start_row

-- what such a start means: its id
abbrev pub id_alone : Text → Values start_row
id_alone id = (tt, (id, (tt, tt)))

-- the parameters of an element, and the bracket that closes it
abbrev pub inside_row : List Class
inside_row = list_before param 32 93 ∷ exactly (93 ∷ []) ∷ []

-- from the first parameter of an element to its end
abbrev pub inside : Class
inside = Row inside_row

-- a parameter up to its value
abbrev pub opening_row : List Class
opening_row = texted (some_run is_name_char) ∷ exactly (61 ∷ []) ∷ run is_blank ∷ exactly (34 ∷ []) ∷ []

-- that row, as a class
abbrev pub opening : Class
opening = Row opening_row

-- what such an opening means: the parameter's name
abbrev pub name_alone : Text → Values opening_row
name_alone name = (name, (tt, (tt, (tt, tt))))

-- a value and the quote that closes it
abbrev pub quoted_row : List Class
quoted_row = value ∷ exactly (34 ∷ []) ∷ []

-- that row, as a class
abbrev pub quoted : Class
quoted = Row quoted_row

-- from after a parameter to the end of its element
abbrev pub tail_row : List Class
tail_row = more_before param 32 93 ∷ exactly (93 ∷ []) ∷ []

-- from inside a value to the end of its element
abbrev pub closing : Class
closing = Row (quoted ∷ tail_row)

-- the number of a text's bytes
abbrev pub byte_count : Text → ℕ
byte_count t = length (encode_utf8_all t)

-- no element closes after a `]` that leaves this many bytes or more
abbrev pub IsDead : Text → ℕ → Type 0
IsDead t dead = (a b : Text) → t ≡ a ++ (93 ∷ b) → dead ≤ byte_count b → NoFront closing b

-- the last character of a unit
abbrev pub last_char : TextUnit → ℕ
last_char (pair c) = c
last_char (single c) = c
