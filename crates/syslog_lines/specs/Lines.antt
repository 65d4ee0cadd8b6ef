-- The lines of some bytes: this project's own choice.
use Rattle.std.specs.Prelude.{◌≡◌, ◌≢◌, ◌<◌, ◌-◌, ℕ, List, [], ◌∷◌, ◌++◌, ◌⊎◌, length, slice_index, All}

-- no byte is a line feed
abbrev pub NoFeed : List ℕ → Type 0
NoFeed bytes = All (λ byte. byte ≢ 10) bytes

-- each line and a line feed after it, joined
abbrev pub with_feeds : List (List ℕ) → List ℕ
with_feeds [] = []
with_feeds (line ∷ lines) = line ++ 10 ∷ with_feeds lines

-- the last line is not empty, and is the only one with no line feed after it
pub record LacksLastFeed (bytes : List ℕ) (lines : List (List ℕ)) : Type 0 where
  pub before : List (List ℕ)
  pub last : List ℕ
  pub some : 0 < length last
  pub listed : lines ≡ before ++ last ∷ []
  pub joined : bytes ≡ with_feeds before ++ last

-- these are the lines of the bytes: what is between line feeds, without an empty last piece
abbrev pub IsLines : List ℕ → List (List ℕ) → Type 0
IsLines bytes lines = All NoFeed lines × ((bytes ≡ with_feeds lines) ⊎ LacksLastFeed bytes lines)

-- the first line of the bytes, and what follows its line feed
abbrev pub IsFirstLine : List ℕ → List ℕ → List ℕ → Type 0
IsFirstLine bytes line rest = NoFeed line × ((bytes ≡ line ++ 10 ∷ rest) ⊎ ((bytes ≡ line) × (rest ≡ [])))

-- there are no bytes, or the last one is a line feed
abbrev pub EndsInFeed : List ℕ → Type 0
EndsInFeed bytes = 0 < length bytes → slice_index bytes (length bytes - 1) ≡ 10
