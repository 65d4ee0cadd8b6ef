-- Numbers of bytes in decimal digits, and zones by their rules.
use Rattle.syslog_command_line.proofs.Names.{◌≡◌, ◌<◌, ℕ, List, Ok, Err, Result, arith, get_or, length, refl}
use Rattle.syslog_command_line.proofs.Names.{IsInRange, numerals_by_value, tells_by_index, Bool, MatchOption, None}
use Rattle.syslog_command_line.proofs.Names.{Option, Some, true}
use Rattle.std.proofs.Common.{All, is_some, ◌^◌, ◌↔◌}
use Rattle.std.proofs.lemmas.Str.Parse.{parse_digits}
use Rattle.std.specs.Char.{IsAsciiDigit}
use Rattle.std.specs.Result.{OkIff}
use Rattle.std.specs.Str.Parse.{ParsesUnsigned, digits_value}
use Rattle.syslog_command_line.specs.Flags.{NamesSize}
use Rattle.jiff.specs.Placed.{IsPosixZone}
use Rattle.jiff.specs.Types.{TimeZone, Posix}
use Rattle.jiff.specs.Words.{read_whole}

module _ {E : Type 0} (text : List ℕ) where
  -- digits are parsed as their value, if it fits
  parsed : (r : Result ℕ E) → ParsesUnsigned 64 10 text r → All IsAsciiDigit text
      → OkIff r ((0 < length text) × (digits_value 10 text < 2 ^ 64)) (digits_value 10 text)
  parsed r parse all =
      let digits : (i : ℕ) → i < length text → IsInRange 48 57 (get_or text i 0) = λ i within. all i 0 within in
      let by_index = numerals_by_value (λ ds. (i : ℕ) → i < length ds → IsInRange 48 57 (get_or ds i 0))
      tells_by_index in
      parse_digits by_index 64 text r parse digits

  pub size_unread : (r : Result ℕ E) → ((n : ℕ) → r ≡ Ok n → ⊥) → ParsesUnsigned 64 10 text r → (size : ℕ)
      → NamesSize text size → ⊥
  size_unread (Ok n) none parse size named = none n refl
  size_unread (Err fault) none parse size named =
      let value : size ≡ digits_value 10 text = named.value in
      let most : size < 2 ^ 63 = named.most in
      parsed (Err fault) parse named.digits (named.some, omega (arith, value, most))

-- a reader of values returns one exactly if the text names one
pub some_iff : {X : Type 0} (Names : X → Type 0) (r : Option X) (found : Bool)
    → MatchOption r ((x : X) → Names x → ⊥) (λ x. Names x) → found ≡ is_some r → (found ≡ true) ↔ ((x : X) × Names x)
some_iff Names (Some x) found read is = (λ on. (x, read), λ named. is)
some_iff Names None found read is = (λ on. cc, λ named. absurd (read named.0 named.1))

-- ---- rules of zones

pub no_rule : (text : List ℕ) (zone : TimeZone) → read_whole text ≡ None → IsPosixZone text zone → ⊥
no_rule text (Posix rule) none is = cc
no_rule text zone none is = absurd is
