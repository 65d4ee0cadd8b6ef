-- What the first bytes of a text are.
use Rattle.std.specs.Prelude.{◌≡◌, ◌≢◌, ◌⊎◌, ℕ, ◌+◌, ◌<◌, Bool, nat_eq, List, ◌∷◌, ◌++◌, length, slice_index}
use Rattle.std.specs.Char.{is_ascii_digit}
use Rattle.syslog_text.specs.Text.Digits.{pad2}
use Rattle.syslog_text.specs.Pieces.Class.{Ends}
use Rattle.syslog_text.specs.Text.Digits.{pad3}

abbrev pub is_dot : ℕ → Bool
is_dot c = nat_eq c 46

-- a byte past white space
abbrev pub BeginsVisibly : List ℕ → Type 0
BeginsVisibly bytes = (0 < length bytes) × (32 < slice_index bytes 0)

-- a space, and then such a byte
abbrev pub BeginsWithGap : List ℕ → Type 0
BeginsWithGap bytes = (1 < length bytes) × (slice_index bytes 0 ≡ 32) × (32 < slice_index bytes 1)

-- no sign and no zero is before a further byte
abbrev pub LeadsBare : List ℕ → Type 0
LeadsBare bytes = 1 < length bytes
    → (slice_index bytes 0 ≢ 43) × (slice_index bytes 0 ≢ 45) × (slice_index bytes 0 ≢ 48)

-- a minus, and then a digit other than zero
abbrev pub BeginsNegative : List ℕ → Type 0
BeginsNegative bytes =
    (1 < length bytes) × (slice_index bytes 0 ≡ 45) × (48 < slice_index bytes 1) × (slice_index bytes 1 < 58)

-- no digit is at the front
abbrev pub EndsDigits : List ℕ → Type 0
EndsDigits bytes = Ends is_ascii_digit bytes

-- a number of one to three digits before none, and the rest
abbrev pub IsSmallNumber : List ℕ → ℕ → List ℕ → Type 0
IsSmallNumber bytes n rest =
    EndsDigits rest
    × (((n < 10) × (bytes ≡ (48 + n) ∷ rest))
    ⊎ (((n < 100) × (bytes ≡ pad2 n ++ rest)) ⊎ ((n < 1_000) × (bytes ≡ pad3 n ++ rest))))
