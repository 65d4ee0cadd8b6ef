-- Texts in JSON, by blocks of 16 or 32 bytes: what private clauses cite.
use Rattle.std.specs.Prelude.{◌≡◌, ◌≤◌, ◌<◌, ◌+◌, ◌^◌, Bool, false, true, ℕ, List, ◌∷◌, ◌++◌, cond, drop, slice_index}
use Rattle.std.specs.Prelude.{take}
use Rattle.std.specs.Int.{bit_at}
use Rattle.json.specs.Print.{escape, escape_byte}
use Rattle.json.specs.Run.{is_stop}
use Rattle.syslog_object.specs.Object.{unescaped}
use Rattle.syslog_object.specs.declared.blocks.Escape.{Escape}
use Rattle.syslog_object.specs.declared.blocks.Escape.TheVariants.{Control, Nothing, Pair, Backslash}

-- bytes with JSON's escapes; where they are raw, without those of a parameter's value
abbrev pub in_json : Bool → List ℕ → List ℕ
in_json false bytes = escape bytes
in_json true bytes = escape (unescaped bytes)

-- what JSON has for the byte at a place, or for the two from there on, and then for what follows
abbrev pub IsEscapeAt : Bool → List ℕ → ℕ → Escape → Type 0
IsEscapeAt raw text at Control = (slice_index text at < 32)
    × (in_json raw (drop at text) ≡ escape_byte (slice_index text at) ++ in_json raw (drop (at + 1) text))
IsEscapeAt raw text at Nothing = in_json raw (drop at text) ≡ in_json raw (drop (at + 1) text)
IsEscapeAt raw text at Pair = in_json raw (drop at text) ≡ take 2 (drop at text) ++ in_json raw (drop (at + 2) text)
IsEscapeAt raw text at Backslash =
    in_json raw (drop at text) ≡ 92 ∷ slice_index text at ∷ in_json raw (drop (at + 1) text)

-- of the `n` bytes from the first on, those that need an escape have a bit in `left`, but for some that are passed
pub record AreStops (n : ℕ) (text : List ℕ) (first passed left : ℕ) : Type 0 where
  pub few : left < 2 ^ n
  pub before : (i : ℕ) → i < passed → bit_at left i ≡ 0
  pub each : (i : ℕ) → passed ≤ i → i < n → bit_at left i ≡ cond (is_stop (slice_index text (first + i))) 1 0
