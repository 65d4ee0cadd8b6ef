-- The dating of a text, where the year and the zone of dates that show none are one value.
use Rattle.jiff.specs.Words.{plain_zone}
use Rattle.syslog_loose.specs.{Words.Text, Words.Dating, declared.variant.Variant.Variant}
use Rattle.syslog_loose.specs.{Reading.InYear, Reckoning.dating_in, Today.IsYearIn, declared.dates.Dates.Dates}

-- this holds of the dating of the text by the dates
abbrev pub IsDated : Dates → Variant → Text → (Dating → Type 0) → Type 0
IsDated dates variant text Holds =
    InYear (λ date year. IsYearIn dates.today date year) variant
    text (λ year. Holds (dating_in (plain_zone dates.zone) year))
