-- Words, hosts and messages that are read back from their printed text.
use Rattle.std.specs.Prelude.{◌≡◌, ◌≢◌, ℕ, ◌<◌, true, [], ◌∷◌, ◌++◌, length}
use Rattle.std.specs.Char.{is_not_whitespace}
use Rattle.syslog_text.specs.Pieces.Class.{Text, Each}
use Rattle.syslog_text.specs.Text.{is_tag_char, dash, colon, EndsInColon}

-- nonempty and without white space
abbrev pub IsVisible : Text → Type 0
IsVisible t = (0 < length t) × Each is_not_whitespace t

-- nonempty, without white space, not `-`, and not ending in a colon
abbrev pub IsCanonicalHost : Text → Type 0
IsCanonicalHost t = IsVisible t × (t ≢ dash) × (EndsInColon t → ⊥)

-- nonempty, without white space, neither `-` nor `:`
abbrev pub IsCanonicalWord : Text → Type 0
IsCanonicalWord t = IsVisible t × (t ≢ dash) × (t ≢ colon)

-- nonempty, without white space and colons, and not `-`
abbrev pub IsCanonicalTag : Text → Type 0
IsCanonicalTag t = (0 < length t) × Each is_tag_char t × (t ≢ dash)

-- the text is empty, or its last character is no white space
abbrev pub EndsVisibly : Text → Type 0
EndsVisibly t = (front : Text) (c : ℕ) → t ≡ front ++ (c ∷ []) → is_not_whitespace c ≡ true
