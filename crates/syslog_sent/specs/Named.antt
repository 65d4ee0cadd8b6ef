-- What follows a date: a host, a program's name and the message. 37 is `%`, 40 `(`, 47 `/`, 91 `[`, 93 `]`, 95 `_`.
use Rattle.std.proofs.Common.{inl, inr}
use Rattle.std.specs.Prelude.{◌≡◌, ◌⊎◌, ◌&&◌, ℕ, Bool, false, nat_lt, not, true, nat_eq, ◌||◌, List, [], ◌∷◌, ◌++◌}
use Rattle.std.specs.Prelude.{Option, Some, None}
use Rattle.std.specs.Char.{is_ascii_alphabetic, is_ascii_digit}
use Rattle.syslog_text.specs.Pieces.Class.{Text, Class, Values, Front, NoFront, Row, some_run, exactly, optional}
use Rattle.syslog_text.specs.Pieces.Class.{mapped, texted}
use Rattle.syslog_text.specs.Pieces.Rules.{such_that}
use Rattle.syslog_text.specs.Text.{colon, host, is_blank}
use Rattle.syslog_text.specs.Text.CharClass.{is_id_char, is_label_char}

-- ---- words of the theory

abbrev pub IsFirstOf : (C D : Class) → Text → Text → C.Value ⊎ D.Value → Type 0
IsFirstOf C D p q (inl v) = C.Is p q v
IsFirstOf C D p q (inr w) = NoFront C (p ++ q) × D.Is p q w

-- a piece of the first class, or where there is none, of the second
infixr 20 ◌otherwise◌
abbrev pub ◌otherwise◌ : Class → Class → Class
◌otherwise◌ C D = record { Value = C.Value ⊎ D.Value; Is = IsFirstOf C D }

-- a piece of the class, or a host before it
abbrev pub after_row : Class → List Class
after_row C = host ∷ some_run is_blank ∷ C ∷ []

abbrev pub hosted : Class → Class
hosted C = C otherwise Row (after_row C)

-- all that is left, where a piece of the class begins it
abbrev pub beginning : Class → Class
beginning C = record { Value = Text; Is = λ p q t. (q ≡ []) × (t ≡ p) × ((r : Text) × (v : C.Value) × Front C p r v) }

-- the text's first character passes the test
abbrev pub BeginsWith : (ℕ → Bool) → Text → Type 0
BeginsWith test [] = ⊥
BeginsWith test (c ∷ more) = test c ≡ true

-- ---- a program

abbrev pub is_letter : ℕ → Bool
is_letter c = is_ascii_alphabetic c

-- characters of ASCII that are no letters
abbrev pub has_no_letter : Text → Bool
has_no_letter [] = true
has_no_letter (c ∷ cs) = (nat_lt c 128 && not (is_letter c)) && has_no_letter cs

-- a digit, and no letter after it
abbrev pub is_number : Text → Bool
is_number [] = false
is_number (c ∷ cs) = is_ascii_digit c && has_no_letter cs

-- a letter, `%`, `(`, `/` or `_`: with these the names of programs begin
abbrev pub begins_name : ℕ → Bool
begins_name c = is_letter c || (nat_eq c 37 || (nat_eq c 40 || (nat_eq c 47 || nat_eq c 95)))

-- a program's name: no white space, colon or `[`
abbrev pub name : Class
name = such_that (texted (some_run is_label_char)) (BeginsWith begins_name)

-- `[`, an id without white space, `]` and `=`, and `]`
abbrev pub id_row : List Class
id_row = exactly (91 ∷ []) ∷ texted (some_run is_id_char) ∷ exactly (93 ∷ []) ∷ []

abbrev pub id_of : Values id_row → Text
id_of (_, (id, (_, _))) = id

abbrev pub process_id : Class
process_id = mapped (Row id_row) Text id_of

-- a program's name, and the id of its process where one is shown
pub record ProgramText : Type 0 where
  pub name : Text
  pub process : Option Text

-- `name[id]:` or `name:`
abbrev pub program_row : List Class
program_row = name ∷ optional process_id ∷ exactly colon ∷ []

abbrev pub program_of : Values program_row → ProgramText
program_of (n, (id, (_, _))) = record { name = n; process = id }

abbrev pub program : Class
program = mapped (Row program_row) ProgramText program_of

-- ---- after the date

-- the names and the message that follow a date
pub record NamedTexts : Type 0 where
  pub hostname : Option Text
  pub appname : Option Text
  pub process : Option Text
  pub msg : Text

-- a host or none, and a message without a program
abbrev pub untagged : Option Text → Text → NamedTexts
untagged hostname msg = record { hostname = hostname; appname = None; process = None; msg = msg }

-- a program beside this host, and its message
abbrev pub tagged : Option Text → ProgramText → Text → NamedTexts
tagged hostname p msg = record { hostname = hostname; appname = Some p.name; process = p.process; msg = msg }
