-- Each byte is a character.
use Rattle.std.proofs.Common.{◌≡◌, ℕ, ◌<◌, ◌+◌, true, List, [], ◌∷◌, ◌++◌, append-nil, arith, get_or, length}
use Rattle.std.proofs.Common.{refl, sym, ap, suc, take, ◌∙◌}
use Rattle.std.proofs.Common.{slice_index}
use Rattle.std.proofs.lemmas.List.{take_more}
use Rattle.std.proofs.lemmas.Str.{chars-encodes, encodes-append}
use Rattle.std.specs.Char.{encode_utf8}
use Rattle.std.specs.Str.{all_scalars, chars, encode_utf8_all}
use lib.Utf8.{low_scalar}

scalar_bytes : (bytes : List ℕ) → ((k : ℕ) → slice_index bytes k < 256) → all_scalars bytes ≡ true
scalar_bytes [] small = refl
scalar_bytes (byte ∷ bytes) small =
    rw (low_scalar byte (omega (arith, small 0)), scalar_bytes bytes (λ k. small (suc k))) refl

pub chars_of_bytes : (bytes : List ℕ) → ((k : ℕ) → slice_index bytes k < 256)
    → chars (encode_utf8_all bytes) ≡ bytes
chars_of_bytes bytes small = chars-encodes bytes (scalar_bytes bytes small)

-- one byte more
pub encodes_more : (bytes : List ℕ) (k : ℕ) → k < length bytes
    → encode_utf8_all (take k bytes) ++ encode_utf8 (get_or bytes k 0) ≡ encode_utf8_all (take (k + 1) bytes)
encodes_more bytes k within =
    ap (λ (l : List ℕ). encode_utf8_all (take k bytes) ++ l) (sym (append-nil (encode_utf8 (get_or bytes k 0))))
    ∙ sym (encodes-append (take k bytes) (get_or bytes k 0 ∷ []))
    ∙ ap encode_utf8_all (sym (take_more bytes k 0 within))
