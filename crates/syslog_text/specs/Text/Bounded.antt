-- Numbers between two bounds.
use Rattle.std.specs.Prelude.{◌≡◌, ◌≤◌, ℕ, true, ◌∷◌}
use Rattle.std.specs.Char.{is_ascii_digit}
use Rattle.syslog_text.specs.Pieces.Class.{Text, Class}
use Rattle.syslog_text.specs.Text.{number}

-- a zero, and then a digit
abbrev pub LeadsWithZero : Text → Type 0
LeadsWithZero t = (c : ℕ) × (more : Text) × (t ≡ 48 ∷ c ∷ more) × (is_ascii_digit c ≡ true)

-- a number from `least` to `most` in decimal, without leading zeros
abbrev pub numeral : ℕ → ℕ → Class
numeral least most =
    record { Value = ℕ; Is = λ p q n. (number most).Is p q n × (least ≤ n) × (LeadsWithZero p → ⊥) }
