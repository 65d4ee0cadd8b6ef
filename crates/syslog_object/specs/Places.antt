-- Where keys begin and come again, and the text of the members before a place: what private clauses cite.
use Rattle.std.specs.Prelude.{◌≡◌, ◌≢◌, ◌<◌, ◌≤◌, ◌+◌, ◌==◌, ℕ, suc, nat_lt, Bool, true, false, List, [], ◌∷◌, cond}
use Rattle.std.specs.Prelude.{drop, get_or, length, map, slice_index, take}
use Rattle.std.specs.Str.{bytes_eq}
use Rattle.json.specs.Json.{Json}
use Rattle.syslog_object.specs.Gathered.{first_keys, one_or_all, values_at}

-- the first place of a key, or the end
abbrev pub place : List ℕ → List (List ℕ × Json) → ℕ
place key [] = 0
place key (p ∷ ps) = cond (bytes_eq key p.0) 0 (suc (place key ps))

-- the flag of the place is set, if it has one, and all others are as before
pub record IsMarked (place : ℕ) (old new : List Bool) : Type 0 where
  pub sized : length new ≡ length old
  pub set : place < length old → get_or new place false ≡ true
  pub kept : (i : ℕ) → i ≢ place → get_or new i false ≡ get_or old i false

-- the list has the next place of each pair's key, or the end, for the pairs from `at` on
pub record AreNext (pairs : List (List ℕ × Json)) (at : ℕ) (nexts : List ℕ) : Type 0 where
  pub sized : length nexts ≡ length pairs
  pub each : (i : ℕ) (p : List ℕ × Json) → at ≤ i → i < length pairs → p ≡ get_or pairs i p
      → slice_index nexts i ≡ i + 1 + place p.0 (drop (i + 1) pairs)

-- and this one says of each place whether its key has one before it
pub record ArePlaces (pairs : List (List ℕ × Json)) (nexts : List ℕ) (agains : List Bool) : Type 0 where
  pub next : AreNext pairs 0 nexts
  pub sized : length agains ≡ length pairs
  pub again : (i : ℕ) (p : List ℕ × Json) → i < length pairs → p ≡ get_or pairs i p
      → get_or agains i false ≡ nat_lt (place p.0 pairs) i

-- the members of the keys that are among the first so many pairs: each key with its value, or all its values
abbrev pub begun : List (List ℕ × Json) → ℕ → List (List ℕ × Json)
begun pairs at = map (λ k. (k, one_or_all (values_at k pairs))) (first_keys (take at pairs))

-- the byte before a member, by the number of those before it
abbrev pub before_member : ℕ → ℕ
before_member count = cond (count == 0) 123 44
