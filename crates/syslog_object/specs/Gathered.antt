-- Objects whose keys may come again.
use Rattle.std.specs.Prelude.{ℕ, List, [], ◌∷◌, map, not}
use Rattle.std.specs.List.{filter}
use Rattle.std.specs.Str.{bytes_eq}
use Rattle.json.specs.Json.{Json, array, object, Members, no_members, member}
use Rattle.json.specs.Value.{items_of}

-- the values at a key, in order
abbrev pub values_at : {V : Type 0} → List ℕ → List (List ℕ × V) → List V
values_at key pairs = map (λ p. p.1) (filter (λ p. bytes_eq key p.0) pairs)

-- each key, in the order of their first places
abbrev pub first_keys : {V : Type 0} → List (List ℕ × V) → List (List ℕ)
first_keys [] = []
first_keys (p ∷ ps) = p.0 ∷ filter (λ k. not (bytes_eq p.0 k)) (first_keys ps)

-- a value that is alone as it is, and more in an array
abbrev pub one_or_all : List Json → Json
one_or_all [] = array (items_of [])
one_or_all (d ∷ []) = d
one_or_all (d ∷ e ∷ ds) = array (items_of (d ∷ e ∷ ds))

-- members in this order
abbrev pub members_of : List (List ℕ × Json) → Members
members_of [] = no_members
members_of (p ∷ ps) = member p.0 p.1 (members_of ps)

-- each key at its first place, with its value, or an array of all its values
abbrev pub gathered : List (List ℕ × Json) → Json
gathered pairs = object (members_of (map (λ k. (k, one_or_all (values_at k pairs))) (first_keys pairs)))
