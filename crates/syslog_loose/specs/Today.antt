-- What is known of the current day, and the year of a date that shows none: this project's own choice.
use Rattle.std.{proofs.Props.props, specs.Prelude.◌≡◌}
use Rattle.syslog_loose.specs.Words.{⊤, ℤ, IsYear, Some}
use Rattle.syslog_loose.specs.{Reading.IncompleteDate, declared.today.Today.Today}
use Rattle.syslog_loose.specs.Reckoning.{IsYearOnDay, reckoned_year}
use Rattle.syslog_loose.specs.declared.today.Today.TheVariants.{Year, Month, Day}

-- its year is one of the calendar
abbrev pub HasYear : Today → Type 0
HasYear (Year year) = IsYear year
HasYear (Month year month) = IsYear year
HasYear (Day day) = ⊤

pub HasYear-prop : (today : Today) → IsProp (HasYear today)
HasYear-prop (Year year) = Prim.hlevel props
HasYear-prop (Month year month) = Prim.hlevel props
HasYear-prop (Day day) = Prim.hlevel props

-- This is the year of the date: the current one; or, in January, for a date of December the one before; or the last
-- that puts the date no more than a day past the current day.
abbrev pub IsYearIn : Today → IncompleteDate → ℤ → Type 0
IsYearIn (Year current) date year = year ≡ current
IsYearIn (Month current month) date year = year ≡ reckoned_year current (Some month) date
IsYearIn (Day day) date year = IsYearOnDay day date year
