-- How a call ends, as the number that C gets.
use Rattle.std.specs.Prelude.{◌≡◌, ℕ}
use Rattle.syslog_c.specs.declared.outcome.Outcome.{Outcome}
use Rattle.syslog_c.specs.declared.outcome.Outcome.TheVariants.{Done, NoReading, NotUtf8, NoMemory, NoRoom, BadArgument}

-- the number of an outcome
abbrev pub outcome_number : Outcome → ℕ
outcome_number Done = 0
outcome_number NoReading = 1
outcome_number NotUtf8 = 2
outcome_number NoMemory = 3
outcome_number NoRoom = 4
outcome_number BadArgument = 5

-- the number is that of an outcome of which this holds
abbrev pub IsCodeOf : ℕ → (Outcome → Type 0) → Type 0
IsCodeOf code Holds = (outcome : Outcome) × (code ≡ outcome_number outcome) × Holds outcome
