-- The flags that a reader of words has taken so far.
use Rattle.std.specs.Prelude.{◌≡◌, ℕ, List, ◌++◌, Option, None, MatchOption, All, Contains, length, slice_index_or}
use Rattle.std.specs.List.{flat_map}
use Rattle.std.proofs.Common.{Bor}
use Rattle.syslog_loose.specs.declared.today.Today.{Today}
use Rattle.syslog_command_line.specs.Flags.{IsValue, flag_number, rival}
use Rattle.syslog_command_line.specs.Options.{AreFlagsAndDate, CanBeGiven, GivenFlag, IsGivenAs, IsLeftOut, given_words}
use Rattle.syslog_command_line.specs.Words.{AreDateWords}
use Rattle.syslog_command_line.specs.declared.flags.Flag.{Flag}
use Rattle.syslog_command_line.specs.declared.given.Given.{Given}

-- what is held for the flag
abbrev pub value_at : Given → Flag → Option (Bor (List ℕ))
value_at held flag = slice_index_or held.values (flag_number flag) None

-- the values of these flags are held, and no others
pub record Holds (held : Given) (given : List GivenFlag) : Type 0 where
  pub size : length held.values ≡ 12
  pub each : (flag : Flag) → MatchOption (value_at held flag)
      (IsLeftOut given flag) (λ value. IsGivenAs given flag value.now)
  pub valued : All (λ one. IsValue one.flag one.value) given

-- the words begin with this flag, it can be given beside those that are held, and these words come after it
pub record BeginsWith (offered : List Flag) (held : Given) (words : List (List ℕ)) (one : GivenFlag)
    (rest : List (List ℕ)) : Type 0 where
  pub known : Contains offered one.flag
  pub valued : IsValue one.flag one.value
  pub new : value_at held one.flag ≡ None
  pub unopposed : value_at held (rival one.flag) ≡ None
  pub listed : words ≡ given_words one ++ rest

-- they begin with no such flag
abbrev pub BeginsWithNone : List Flag → Given → List (List ℕ) → Type 0
BeginsWithNone offered held words =
    (one : GivenFlag) (rest : List (List ℕ)) → ¬ (BeginsWith offered held words one rest)

-- the words are flags and others, and whatever flags and a date they are, the date is in these others
pub record SplitsWords (offered : List Flag) (words : List (List ℕ)) (held : Given) (rest : List (List ℕ)) : Type
    0 where
  pub given : List GivenFlag
  pub listed : words ≡ flat_map given_words given ++ rest
  pub allowed : CanBeGiven offered given
  pub holds : Holds held given
  pub dated : (flags : List GivenFlag) (today : Today) → AreFlagsAndDate offered words flags today
      → AreDateWords rest today

-- the words are no flags and date
abbrev pub AreNoFlagsAndDate : List Flag → List (List ℕ) → Type 0
AreNoFlagsAndDate offered words =
    (flags : List GivenFlag) (today : Today) → ¬ (AreFlagsAndDate offered words flags today)
