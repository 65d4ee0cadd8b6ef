-- How clauses see the texts that the program holds.
use Rattle.std.specs.Prelude.{◌≡◌, ℕ, Bool, List, Option, MatchOption, nat_eq}
use Rattle.std.specs.Option.{option_map}
use Rattle.std.specs.Borrow.{Bor}
use Rattle.std.specs.Str.{chars}
use Rattle.std.specs.Cmp.Lexicographic.{pointwise}
use Rattle.syslog_text.specs.Pieces.Class.{Text, Class, Front, NoFront}

-- the text that a slice shows
abbrev pub shown : Bor (List ℕ) → Text
shown s = chars s.now

-- the text after an optional slice
abbrev pub seen : Option (Bor (List ℕ)) → Option Text
seen s = option_map (λ t. shown t) s

-- the text of a value, of which AsStr gives the bytes
abbrev pub text_of : {S : Type 0} → (S → List ℕ) → S → Text
text_of bytes s = chars (bytes s)

-- a clone has the text of its source
abbrev pub ClonesKeepText : {S : Type 0} → (S → S → Type 0) → (S → List ℕ) → Type 0
ClonesKeepText {S} is_clone bytes = (x y : S) → is_clone x y → bytes y ≡ bytes x

-- whether two texts are the same
abbrev pub text_eq : Text → Text → Bool
text_eq = pointwise nat_eq

-- ---- what a reader of a class returns about a text: the front of the class, or nothing where there is none

-- the meaning, seen through a view, and the text after the front
abbrev pub Reads : {X : Type 0} (C : Class) → (X → C.Value) → Text → Option (X × Bor (List ℕ)) → Type 0
Reads C view text r = MatchOption r (NoFront C text) (λ x. Front C text (shown x.1) (view x.0))

-- the same of a reader of bytes
abbrev pub ReadsBytes : {X : Type 0} (C : Class) (view : X → C.Value) → List ℕ → Option (X × Bor (List ℕ)) → Type 0
ReadsBytes C view bytes r = MatchOption r (NoFront C bytes) (λ x. Front C bytes x.1.now (view x.0))

-- the text after the front, whose meaning is known
abbrev pub Skips : (C : Class) → C.Value → Text → Option (Bor (List ℕ)) → Type 0
Skips C value text r = MatchOption r (NoFront C text) (λ q. Front C text (shown q) value)

-- the text after the front, whatever it means
abbrev pub Recognises : (C : Class) → Text → Option (Bor (List ℕ)) → Type 0
Recognises C text r = MatchOption r (NoFront C text) (λ q. (v : C.Value) × Front C text (shown q) v)
