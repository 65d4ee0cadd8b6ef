-- The theory of pieces: which piece may come before which text, with which meaning, and what it is to divide a text
-- into pieces. A text is related to its pieces by concatenation alone: no definition has a position, and none says in
-- which order a reader tries things.
use Rattle.std.specs.Prelude.{◌≡◌, ◌⊎◌, ℕ, ◌<◌, Bool, true, false, List, [], ◌∷◌, ◌++◌, length, Option, MatchOption}

-- a text: a list of Unicode scalar values
abbrev pub Text : Type 0
Text = List ℕ

-- A class says which piece may come before which text that follows it, and with which meaning.
pub record Class : Type 1 where
  pub Value : Type 0
  pub Is : Text → Text → Value → Type 0

-- the text is a piece of the class, with this meaning, and then what follows
pub record Front (C : Class) (text follows : Text) (value : C.Value) : Type 0 where
  pub piece : Text
  pub whole : text ≡ piece ++ follows
  pub is : C.Is piece follows value

-- no front of the text is of the class
abbrev pub NoFront : Class → Text → Type 0
NoFront C text = (p q : Text) (v : C.Value) → text ≡ p ++ q → C.Is p q v → ⊥

-- a text has at most one front of the class, and that has one meaning
abbrev pub IsDeterministic : Class → Type 0
IsDeterministic C = (p q p' q' : Text) (v v' : C.Value) → p ++ q ≡ p' ++ q' → C.Is p q v → C.Is p' q' v'
    → (p ≡ p') × (v ≡ v')

-- ---- several pieces in a row

-- the pieces, one after the other
abbrev pub join : List Text → Text
join [] = []
join (p ∷ ps) = p ++ join ps

-- a meaning for each class of a row
abbrev pub Values : List Class → Type 0
Values [] = Unit {0}
Values (C ∷ Cs) = C.Value × Values Cs

-- each piece is of its class before those after it, and the last before what follows the row
abbrev pub Divides : (Cs : List Class) → List Text → Text → Values Cs → Type 0
Divides [] [] q vs = Unit {0}
Divides [] (p ∷ ps) q vs = ⊥
Divides (C ∷ Cs) [] q vs = ⊥
Divides (C ∷ Cs) (p ∷ ps) q vs = C.Is p (join ps ++ q) vs.0 × Divides Cs ps q vs.1

-- a row of pieces, as a class
abbrev pub Row : List Class → Class
Row Cs = record { Value = Values Cs; Is = λ p q vs. (ps : List Text) × (p ≡ join ps) × Divides Cs ps q vs }

-- the whole text is a row of pieces with these meanings
pub record Division (Cs : List Class) (text : Text) (values : Values Cs) : Type 0 where
  pub pieces : List Text
  pub whole : text ≡ join pieces
  pub each : Divides Cs pieces [] values

-- the text is no such row
abbrev pub NoDivision : List Class → Text → Type 0
NoDivision Cs text = (vs : Values Cs) → Division Cs text vs → ⊥

-- ---- runs of characters

-- each character passes the test
abbrev pub Each : (ℕ → Bool) → Text → Type 0
Each test [] = Unit {0}
Each test (c ∷ cs) = (test c ≡ true) × Each test cs

-- the text is empty, or its first character fails the test: so a run of characters before it is maximal
abbrev pub Ends : (ℕ → Bool) → Text → Type 0
Ends test [] = Unit {0}
Ends test (c ∷ cs) = test c ≡ false

-- the maximal run of characters that pass the test, perhaps empty
abbrev pub run : (ℕ → Bool) → Class
run test = record { Value = Unit {0}; Is = λ p q _. Each test p × Ends test q }

-- the maximal run of them, not empty
abbrev pub some_run : (ℕ → Bool) → Class
some_run test = record { Value = Unit {0}; Is = λ p q _. (0 < length p) × Each test p × Ends test q }

-- ---- one text, what is left, and a piece that may be absent

-- this text
abbrev pub exactly : Text → Class
exactly t = record { Value = Unit {0}; Is = λ p q _. p ≡ t }

-- all that is left
abbrev pub rest : Class
rest = record { Value = Text; Is = λ p q v. (q ≡ []) × (v ≡ p) }

-- a piece of the class, absent only where no front of what follows is of the class
abbrev pub optional : Class → Class
optional C =
    record { Value = Option C.Value; Is = λ p q v. MatchOption v ((p ≡ []) × NoFront C q) (λ x. C.Is p q x) }

-- ---- another meaning

-- the class, its meaning seen through a function
abbrev pub mapped : (C : Class) (B : Type 0) → (C.Value → B) → Class
mapped C B f = record { Value = B; Is = λ p q b. (v : C.Value) × C.Is p q v × (b ≡ f v) }

-- the class, its meaning being the piece itself
abbrev pub texted : Class → Class
texted C = record { Value = Text; Is = λ p q t. (v : C.Value) × C.Is p q v × (t ≡ p) }

-- ---- pieces of two kinds, and pieces after a space

-- a piece of one of two kinds, with meanings of one type
abbrev pub either : (B : Type 0) → (P Q : Text → Text → B → Type 0) → Class
either B P Q = record { Value = B; Is = λ p q v. P p q v ⊎ Q p q v }

-- a character, and then a piece of the class
abbrev pub after : ℕ → Class → Class
after c C = record { Value = C.Value; Is = λ p q v. (t : Text) × (p ≡ c ∷ t) × C.Is t q v }

-- a space, and then a piece of the class
abbrev pub spaced : Class → Class
spaced = after 32
