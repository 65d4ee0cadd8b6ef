-- Lists of pieces of one class.
use Rattle.std.specs.Prelude.{◌≡◌, ℕ, List, [], ◌∷◌, ◌++◌}
use Rattle.syslog_text.specs.Pieces.Class.{Text, Class, Front, NoFront}

abbrev pub IsMany : (C : Class) → Text → Text → List C.Value → Type 0
IsMany C p q [] = (p ≡ []) × NoFront C q
IsMany C p q (v ∷ vs) = (a : Text) × (b : Text) × (p ≡ a ++ b) × C.Is a (b ++ q) v × IsMany C b q vs

-- pieces of the class one after the other, as many as there are
abbrev pub many : Class → Class
many C = record { Value = List C.Value; Is = IsMany C }

-- the pieces vs have been read, and those at t' are left
abbrev pub HasRead : (C : Class) → Text → List C.Value → Text → Type 0
HasRead C t vs t' = (q : Text) (ws : List C.Value) → Front (many C) t' q ws → Front (many C) t q (vs ++ ws)

-- further pieces of the class, each after one separator
abbrev pub IsMore : (C : Class) (separator : ℕ) → Text → Text → List C.Value → Type 0
IsMore C separator p q [] = p ≡ []
IsMore C separator p q (v ∷ vs) = (a : Text) × (b : Text) × (p ≡ separator ∷ (a ++ b)) × C.Is a (b ++ q) v
    × IsMore C separator b q vs

-- pieces of the class with exactly one separator between two; perhaps none
abbrev pub IsList : (C : Class) (separator : ℕ) → Text → Text → List C.Value → Type 0
IsList C separator p q [] = p ≡ []
IsList C separator p q (v ∷ vs) = (a : Text) × (b : Text) × (p ≡ a ++ b) × C.Is a (b ++ q) v × IsMore C separator b q vs

-- such a list before the character that closes it
abbrev pub list_before : (C : Class) (separator close : ℕ) → Class
list_before C separator close =
    record { Value = List C.Value; Is = λ p q vs. IsList C separator p q vs × ((r : Text) × (q ≡ close ∷ r)) }

-- its further pieces before that character
abbrev pub more_before : (C : Class) (separator close : ℕ) → Class
more_before C separator close =
    record { Value = List C.Value; Is = λ p q vs. IsMore C separator p q vs × ((r : Text) × (q ≡ close ∷ r)) }
