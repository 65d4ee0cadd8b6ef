-- What the options mean.
use Rattle.std.specs.Prelude.{◌≡◌, ◌⊎◌, ◌≤◌, ℕ, ℤ, nat_eq, pos, List, [], ◌∷◌, ◌++◌}
use Rattle.std.specs.Str.{IsUtf8}
use Rattle.jiff.specs.Placed.{IsPosixZone}
use Rattle.jiff.specs.Types.{TimeZone}
use Rattle.jiff.specs.Words.{IsYmd, plain_zone}
use Rattle.jiff_core.specs.Calendar.{IsYear}
use Rattle.jiff_core.specs.Timestamp.{IsOffsetSeconds}
use Rattle.syslog_lines.specs.Frames.{NoByte}
use Rattle.syslog_loose.specs.Reckoning.{IsZoneAt}
use Rattle.syslog_loose.specs.declared.dates.Dates.{Dates}
use Rattle.syslog_loose.specs.declared.today.Today.{Today}
use Rattle.syslog_loose.specs.declared.today.Today.TheVariants.{Day, Month, Year}
use Rattle.syslog_loose.specs.declared.variant.Variant.{Variant}
use Rattle.syslog_loose.specs.declared.variant.Variant.TheVariants.{Either, RFC3164, RFC5424}
use Rattle.syslog_c.specs.declared.options.Options.{Options}
use Rattle.syslog_c.specs.declared.rules.Rules.{Rules}

-- the number of a variant
abbrev pub variant_number : Variant → ℕ
variant_number Either = 0
variant_number RFC3164 = 3164
variant_number RFC5424 = 5424

-- What is known of the current day: its year alone, where the month and the day are 0; its year and its month, where
-- the day is 0; or the day, which the calendar has.
abbrev pub IsToday : Options → Today → Type 0
IsToday options (Year year) = IsYear year × (options.year ≡ year) × (options.month ≡ 0) × (options.day ≡ 0)
IsToday options (Month year month) = IsYear year × (options.year ≡ year) × (options.month ≡ month) × (1 ≤ month)
    × (month ≤ 12) × (options.day ≡ 0)
IsToday options (Day date) = IsYmd options.year (pos options.month) (pos options.day) date

-- the text that C has in an array: a zero byte ends it, or it fills the array
abbrev pub IsTextIn : List ℕ → List ℕ → Type 0
IsTextIn array text = NoByte 0 text × ((array ≡ text) ⊎ ((after : List ℕ) × (array ≡ text ++ 0 ∷ after)))

-- the zone that is so many seconds ahead of UTC; or, where there is a rule, its zone, and then the offset is 0
abbrev pub IsZoneBy : List ℕ → ℤ → TimeZone → Type 0
IsZoneBy [] offset zone = IsOffsetSeconds offset × IsZoneAt offset zone
IsZoneBy (byte ∷ more) offset zone = (offset ≡ pos 0) × IsUtf8 (byte ∷ more) × IsPosixZone (byte ∷ more) zone

-- the zone of dates that show none
abbrev pub IsZoneOf : Options → TimeZone → Type 0
IsZoneOf options zone = (rule : List ℕ) × IsTextIn options.zone rule × IsZoneBy rule options.offset zone

-- dates that show no year or no zone are taken as the options say
pub record AreDates (options : Options) (dates : Dates) : Type 0 where
  pub today : IsToday options dates.today
  pub zone : IsZoneOf options (plain_zone dates.zone)

-- these are the rules that the options say
pub record AreRules (options : Options) (rules : Rules) : Type 0 where
  pub named : options.variant ≡ variant_number rules.variant
  pub dates : AreDates options rules.dates
  pub dialects : rules.dialects ≡ nat_eq options.no_dialects 0

-- the options say some rules
abbrev pub IsTaken : Options → Type 0
IsTaken options = (rules : Rules) × AreRules options rules
