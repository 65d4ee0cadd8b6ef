-- The text of a value, and how it is read.
use Rattle.std.specs.Prelude.{◌≡◌, ◌<◌, ◌≤◌, ◌^◌, ⊤, ℕ, List, Some, All, decimal}
use Rattle.json.specs.Json.{Json, null, boolean, number, string, array, object, document}
use Rattle.json.specs.Json.{Items, no_items, item, Members, no_members, member}
use Rattle.json.specs.Print.{print}
use Rattle.json.specs.Tree.{depth, json_tokens}

-- the text is a natural number of 64 bits
abbrev pub IsSmall : List ℕ → Type 0
IsSmall text = (n : ℕ) × (n < 2 ^ 64) × (text ≡ decimal n)

-- each number is one of these
abbrev mutual
  pub HasSmallNumbers : Json → Type 0
  HasSmallNumbers null = ⊤
  HasSmallNumbers (boolean b) = ⊤
  HasSmallNumbers (number text) = IsSmall text
  HasSmallNumbers (string s) = ⊤
  HasSmallNumbers (array js) = ItemsHaveSmallNumbers js
  HasSmallNumbers (object ms) = MembersHaveSmallNumbers ms

  pub ItemsHaveSmallNumbers : Items → Type 0
  ItemsHaveSmallNumbers no_items = ⊤
  ItemsHaveSmallNumbers (item j js) = HasSmallNumbers j × ItemsHaveSmallNumbers js

  pub MembersHaveSmallNumbers : Members → Type 0
  MembersHaveSmallNumbers no_members = ⊤
  MembersHaveSmallNumbers (member k j ms) = HasSmallNumbers j × MembersHaveSmallNumbers ms

-- The bytes are read as exactly this value. They are its text without a space between tokens, its members in their
-- order, and have no byte below 32. The numbers are small, and few arrays and objects are nested.
pub record IsTextOf (value : Json) (bytes : List ℕ) : Type 0 where
  pub read_back : document bytes ≡ Some value
  pub compact : bytes ≡ print (json_tokens value)
  pub printable : All (λ byte. 32 ≤ byte) bytes
  pub numbers : HasSmallNumbers value
  pub nesting : depth value ≤ 5
