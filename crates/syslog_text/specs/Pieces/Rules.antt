-- The words of grammars: with rows, runs and lists, what the rules of an RFC's ABNF are made of.
use Rattle.std.proofs.Common.{inl, inr}
use Rattle.std.specs.Prelude.{◌⊎◌, ℕ, ◌<◌, ◌≤◌, Bool, length}
use Rattle.syslog_text.specs.Pieces.Class.{Text, Class, Each, Ends}

-- the maximal run of characters that pass the test, if it has one to `most` of them
abbrev pub short_run : (ℕ → Bool) → ℕ → Class
short_run test most = record {
  Value = Unit {0};
  Is = λ p q _. (0 < length p) × (length p ≤ most) × Each test p × Ends test q;
}

abbrev pub IsOneOf : (C D : Class) → Text → Text → C.Value ⊎ D.Value → Type 0
IsOneOf C D p q (inl v) = C.Is p q v
IsOneOf C D p q (inr w) = D.Is p q w

-- a piece of either class: the slash of ABNF
infixr 20 ◌or◌
abbrev pub ◌or◌ : Class → Class → Class
◌or◌ C D = record { Value = C.Value ⊎ D.Value; Is = IsOneOf C D }

-- a piece of the class whose meaning has a property
abbrev pub such_that : (C : Class) → (C.Value → Type 0) → Class
such_that C P = record { Value = C.Value; Is = λ p q v. C.Is p q v × P v }
