-- What the iterator over an element's parameters gives.
use Rattle.std.specs.Prelude.{◌≡◌, ℕ, List, [], ◌∷◌, Option, None, Result, IsSomeAnd, IfOk, String, string_bytes}
use Rattle.std.specs.{Borrow.Bor, Global.Global, Str.chars, declared.alloc.AllocError.AllocError}
use Rattle.syslog_elements.specs.StructuredData.Escapes.{IsUnescaped}
use Rattle.syslog_text.specs.Pieces.View.{text_of}

-- what is given for a parameter: its name and its value without escapes, or that an allocation failed
abbrev pub IsParamItem : {S : Type 0} → (S → List ℕ) → S × S → Result (Bor S × String Global) AllocError → Type 0
IsParamItem bytes param item =
    IfOk item (λ found. (found.0.now ≡ param.0) × IsUnescaped (text_of bytes param.1) (chars (string_bytes found.1)))

-- the first parameter that was left comes next; nothing where none was left
abbrev pub NextParam : {S : Type 0} → (S → List ℕ) → List (S × S) → Option (Result (Bor S × String Global) AllocError)
    → List (S × S) → Type 0
NextParam bytes [] item new = (item ≡ None) × (new ≡ [])
NextParam bytes (param ∷ rest) item new = IsSomeAnd item (λ found. IsParamItem bytes param found) × (new ≡ rest)

-- one item in the place of each parameter, in order
abbrev pub AreParamItems : {S : Type 0} → (S → List ℕ) → List (S × S) → List (Result (Bor S × String Global) AllocError)
    → Type 0
AreParamItems bytes [] [] = Unit {0}
AreParamItems bytes [] (item ∷ items) = ⊥
AreParamItems bytes (param ∷ params) [] = ⊥
AreParamItems bytes (param ∷ params) (item ∷ items) = IsParamItem bytes param item × AreParamItems bytes params items
