-- The text that bytes are taken for.
use Rattle.std.specs.Prelude.{◌≡◌, ◌⊎◌, ℕ, Bool, true, false, List, IsUtf8, encode_utf8_all}
use Rattle.std.specs.Str.Lossy.{utf8_lossy}

-- the text of bytes that are not UTF-8: as ISO 8859-1 each byte is the character of its number, and otherwise U+FFFD
-- replaces each part that is not UTF-8
abbrev pub decoded : Bool → List ℕ → List ℕ
decoded true bytes = encode_utf8_all bytes
decoded false bytes = utf8_lossy bytes

-- bytes are taken for this text: themselves if they are UTF-8
abbrev pub AreTakenFor : Bool → List ℕ → List ℕ → Type 0
AreTakenFor is_latin1 bytes text = (IsUtf8 bytes × (text ≡ bytes))
    ⊎ ((¬ (IsUtf8 bytes)) × (text ≡ decoded is_latin1 bytes))
