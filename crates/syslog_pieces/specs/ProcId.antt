-- Process ids: a number of 32 bits, or any other text.
pub mod Equal
pub mod EqualLaws
use Rattle.std.specs.Prelude.{◌≡◌, ⊤, ℤ, pos, negsuc, FitsSigned, length, Option, Some, None, List, [], ◌∷◌}
use Rattle.std.specs.Prelude.{Bool, ◌&&◌, if◌then◌else◌, nat_lt}
use Rattle.std.specs.List.{list_all}
use Rattle.std.specs.Int.{w32}
use Rattle.std.specs.Char.{is_ascii_digit}
use Rattle.std.specs.Fmt.{signed_decimal}
use Rattle.std.specs.Str.Parse.{IsNumeral, signed_digits_value, without_leading_sign}
use Rattle.syslog_text.specs.Pieces.Class.{Text, Class}
use Rattle.syslog_text.specs.Text.{word, dash}
use Rattle.syslog_text.specs.Text.Canonical.{IsCanonicalWord}
use Rattle.syslog_pieces.specs.declared.procid.ProcId.{ProcId}
use Rattle.syslog_pieces.specs.declared.procid.ProcId.TheVariants.{PID, Name}

-- a process id over texts, of one over S
abbrev pub procid_value : {S : Type 0} → (S → Text) → ProcId S → ProcId Text
procid_value text (PID n) = PID n
procid_value text (Name s) = Name (text s)

-- the name of a process, where it is no number
abbrev pub process_texts : Option (ProcId Text) → List Text
process_texts None = []
process_texts (Some (PID n)) = []
process_texts (Some (Name t)) = t ∷ []

-- digits, after at most one sign, that write this number from -2147483648 to 2147483647
abbrev pub IsI32Text : Text → ℤ → Type 0
IsI32Text t n = (IsNumeral 10 (without_leading_sign t) × (n ≡ signed_digits_value 10 t)) × FitsSigned w32 n

-- what a text names: the number that it writes, or else itself
abbrev pub NamesProcess : Text → ProcId Text → Type 0
NamesProcess t (PID n) = IsI32Text t n
NamesProcess t (Name name) = ((n : ℤ) → IsI32Text t n → ⊥) × (name ≡ t)

-- a number of 32 bits
abbrev pub has_32_bits : ℤ → Bool
has_32_bits (pos n) = nat_lt n 2_147_483_648
has_32_bits (negsuc n) = nat_lt n 2_147_483_648

-- one or more ASCII digits, after at most one sign
abbrev pub is_signed_text : Text → Bool
is_signed_text t = nat_lt 0 (length (without_leading_sign t)) && list_all is_ascii_digit (without_leading_sign t)

-- that process id, computed
abbrev pub named_process : Text → ProcId Text
named_process t =
    if is_signed_text t && has_32_bits (signed_digits_value 10 t) then PID (signed_digits_value 10 t) else Name t

-- the number in decimal, or the text
abbrev pub procid_text : ProcId Text → Text
procid_text (PID n) = signed_decimal n
procid_text (Name t) = t

-- the text is printed as what it names
abbrev pub IsBareWord : Text → Type 0
IsBareWord t = procid_text (named_process t) ≡ t

-- that text, or `-` where there is no process id
abbrev pub process_text : Option (ProcId Text) → Text
process_text None = dash
process_text (Some p) = procid_text p

abbrev pub IsProcessWord : Text → Text → Option (ProcId Text) → Type 0
IsProcessWord p q None = word.Is p q None
IsProcessWord p q (Some id) = (t : Text) × word.Is p q (Some t) × NamesProcess t id

-- a word of RFC 5424 as a process id
abbrev pub process_word : Class
process_word = record { Value = Option (ProcId Text); Is = IsProcessWord }

-- ---- process ids that are read back from their printed text

-- no text of a number of 32 bits
abbrev pub IsNoI32Text : Text → Type 0
IsNoI32Text t = (n : ℤ) → IsI32Text t n → ⊥

-- a number, or a canonical word that is no text of one
abbrev pub IsCanonicalProcess : ProcId Text → Type 0
IsCanonicalProcess (PID n) = ⊤
IsCanonicalProcess (Name t) = IsCanonicalWord t × IsNoI32Text t

-- the number has 32 bits
abbrev pub IsBoundedProcess : ProcId Text → Type 0
IsBoundedProcess (PID n) = FitsSigned w32 n
IsBoundedProcess (Name t) = ⊤
