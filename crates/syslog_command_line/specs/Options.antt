-- The flags before the date, and what they and the date ask for: this project's own choice.
use Rattle.std.specs.Prelude.{◌≡◌, ◌≢◌, ◌⊎◌, ℕ, ℤ, true, false, if◌then◌else◌, List, [], ◌∷◌, ◌++◌, None, pos}
use Rattle.std.specs.Prelude.{All, AllPairs, Contains, IsSomeAnd}
use Rattle.std.specs.List.{flat_map}
use Rattle.jiff.specs.Placed.{IsPosixZone}
use Rattle.jiff.specs.Types.{TimeZone}
use Rattle.jiff.specs.Words.{plain_zone}
use Rattle.syslog_loose.specs.Reckoning.{IsZoneAt}
use Rattle.syslog_loose.specs.declared.today.Today.{Today}
use Rattle.syslog_lines.specs.declared.framing.Framing.TheVariants.{LineFeeds, Nuls, OctetCounts}
use Rattle.syslog_command_line.specs.Arguments.{NamesOffset}
use Rattle.syslog_command_line.specs.Flags.{IsValue, NamesSeverity, NamesSize, flag_word, rival, takes_value}
use Rattle.syslog_command_line.specs.Words.{AreDateWords}
use Rattle.syslog_command_line.specs.declared.flags.Flag.{Flag}
use Rattle.syslog_command_line.specs.declared.flags.Flag.TheVariants.{Raw, NoDialects, Latin1, Offset, Zone, Nul}
use Rattle.syslog_command_line.specs.declared.flags.Flag.TheVariants.{OctetCounted, MaxLine, Severity, Host, App, Csv}
use Rattle.syslog_command_line.specs.declared.options.Options.{Options}

-- a flag that was given, and its value, which is empty if it takes none
pub record GivenFlag : Type 0 where
  pub flag : Flag
  pub value : List ℕ

-- the words of a flag's value
abbrev pub value_words : Flag → List ℕ → List (List ℕ)
value_words flag value = if takes_value flag then value ∷ [] else []

-- all its words
abbrev pub given_words : GivenFlag → List (List ℕ)
given_words one = flag_word one.flag ∷ value_words one.flag one.value

-- both can be given: they are two flags, and do not say otherwise
abbrev pub GoTogether : GivenFlag → GivenFlag → Type 0
GoTogether one other = (one.flag ≢ other.flag) × (one.flag ≢ rival other.flag)

-- the program has each of these flags, with such a value, and they can be given together
pub record CanBeGiven (offered : List Flag) (given : List GivenFlag) : Type 0 where
  pub known : All (λ one. Contains offered one.flag) given
  pub valued : All (λ one. IsValue one.flag one.value) given
  pub together : AllPairs GoTogether given

-- the words are these flags, in any order, and a date
pub record AreFlagsAndDate (offered : List Flag) (words : List (List ℕ)) (given : List GivenFlag) (today : Today) : Type
    0 where
  pub rest : List (List ℕ)
  pub listed : words ≡ flat_map given_words given ++ rest
  pub allowed : CanBeGiven offered given
  pub dated : AreDateWords rest today

-- the flag was given, with this value
abbrev pub IsGivenAs : List GivenFlag → Flag → List ℕ → Type 0
IsGivenAs given flag value = Contains given (record { flag = flag; value = value })

-- the flag was not given
abbrev pub IsLeftOut : List GivenFlag → Flag → Type 0
IsLeftOut given flag = All (λ one. one.flag ≢ flag) given

-- where the flag was given, what holds of its value; where it was left out, what holds
abbrev pub ByFlag : List GivenFlag → Flag → (List ℕ → Type 0) → Type 0 → Type 0
ByFlag given flag With Without =
    ((value : List ℕ) × IsGivenAs given flag value × With value) ⊎ (IsLeftOut given flag × Without)

-- the bytes of the longest line, if no flag says otherwise: 64 MiB
abbrev pub usual_max_line : ℕ
usual_max_line = 67_108_864

-- the zone of the rule or the offset that a flag names; UTC where none does
abbrev pub IsZoneGiven : List GivenFlag → TimeZone → Type 0
IsZoneGiven given zone = ByFlag given Zone (λ text. IsPosixZone text zone)
    (ByFlag given Offset (λ text. (seconds : ℤ) × NamesOffset text seconds × IsZoneAt seconds zone)
    (IsZoneAt (pos 0) zone))

-- the options are what the flags and the date say
pub record AreOptions (given : List GivenFlag) (named : Today) (options : Options) : Type 0 where
  pub raw : ByFlag given Raw (λ _. options.raw ≡ true) (options.raw ≡ false)
  pub dialects : ByFlag given NoDialects (λ _. options.dialects ≡ false) (options.dialects ≡ true)
  pub latin1 : ByFlag given Latin1 (λ _. options.latin1 ≡ true) (options.latin1 ≡ false)
  pub csv : ByFlag given Csv (λ _. options.csv ≡ true) (options.csv ≡ false)
  pub framing : ByFlag given Nul (λ _. options.framing ≡ Nuls)
      (ByFlag given OctetCounted (λ _. options.framing ≡ OctetCounts) (options.framing ≡ LineFeeds))
  pub max_line : ByFlag given MaxLine (λ text. NamesSize text options.max_line) (options.max_line ≡ usual_max_line)
  pub severity : ByFlag given Severity
      (λ text. IsSomeAnd options.severity (λ severity. NamesSeverity text severity)) (options.severity ≡ None)
  pub host : ByFlag given Host (λ text. IsSomeAnd options.host (λ host. host.now ≡ text)) (options.host ≡ None)
  pub app : ByFlag given App (λ text. IsSomeAnd options.app (λ app. app.now ≡ text)) (options.app ≡ None)
  pub today : options.dates.today ≡ named
  pub zone : IsZoneGiven given (plain_zone options.dates.zone)

-- the words ask for these options
abbrev pub AsksForOptions : List Flag → List (List ℕ) → Options → Type 0
AsksForOptions offered words options = (given : List GivenFlag) × (today : Today)
    × AreFlagsAndDate offered words given today × AreOptions given today options
