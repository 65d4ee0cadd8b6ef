-- The digits that a small number prints as.
use Rattle.std.specs.Prelude.{ℕ, ◌+◌, ◌/◌, ◌%◌, List, [], ◌∷◌}

-- a number below 100, in two digits
abbrev pub pad2 : ℕ → List ℕ
pad2 n = (48 + n / 10) ∷ (48 + n % 10) ∷ []

-- a number below 1000, in three digits
abbrev pub pad3 : ℕ → List ℕ
pad3 n = (48 + n / 100) ∷ (48 + n / 10 % 10) ∷ (48 + n % 10) ∷ []
