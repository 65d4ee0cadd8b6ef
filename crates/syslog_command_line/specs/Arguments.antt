-- The arguments that the programs share: this project's own choice.
use Rattle.std.specs.Prelude.{◌≡◌, ◌⊎◌, ◌+◌, ◌*◌, ◌/◌, ◌%◌, ℕ, ℤ, ◌≤◌, List, [], ◌∷◌, ◌++◌, length, All, pos, neg_ℤ}
use Rattle.std.specs.Char.{IsAsciiDigit}
use Rattle.std.specs.Str.Parse.{digits_value}
use Rattle.syslog_loose.specs.declared.today.Today.{Today}
use Rattle.syslog_loose.specs.declared.today.Today.TheVariants.{Day, Month, Year}

-- one to four ASCII digits
abbrev pub IsYear : List ℕ → Type 0
IsYear text = (1 ≤ length text) × (length text ≤ 4) × All IsAsciiDigit text

-- the text names this year
abbrev pub NamesYear : List ℕ → ℤ → Type 0
NamesYear text year = IsYear text × (year ≡ pos (digits_value 10 text))

-- the two ASCII digits of a number below 100
abbrev pub two_digits : ℕ → List ℕ
two_digits n = (48 + n / 10) ∷ (48 + n % 10) ∷ []

-- The text names this year, this month or this day: `YEAR`, `YEAR-MONTH` or `YEAR-MONTH-DAY`. A month and a day have
-- two digits, and the calendar has the day.
abbrev pub NamesDate : List ℕ → Today → Type 0
NamesDate text (Year year) = NamesYear text year
NamesDate text (Month year month) = (word : List ℕ) × NamesYear word year × (1 ≤ month) × (month ≤ 12)
    × (text ≡ word ++ (45 ∷ two_digits month))
NamesDate text (Day day) = (word : List ℕ) × NamesYear word day.year
    × (text ≡ word ++ (45 ∷ (two_digits day.month ++ (45 ∷ two_digits day.day))))

-- the text names this offset, in seconds ahead of UTC: `+HH:MM` or `-HH:MM`, up to 23:59
pub record NamesOffset (text : List ℕ) (seconds : ℤ) : Type 0 where
  pub hours : ℕ
  pub minutes : ℕ
  pub within_day : hours ≤ 23
  pub within_hour : minutes ≤ 59
  pub signed :
      ((text ≡ 43 ∷ (two_digits hours ++ (58 ∷ two_digits minutes))) × (seconds ≡ pos (hours * 3600 + minutes * 60)))
      ⊎ ((text ≡ 45 ∷ (two_digits hours ++ (58 ∷ two_digits minutes)))
      × (seconds ≡ neg_ℤ (pos (hours * 3600 + minutes * 60))))

-- the word `--`, after which no word is a flag
abbrev pub end_word : List ℕ
end_word = 45 ∷ 45 ∷ []

-- the words are a year alone, or `--` and a year
abbrev pub AreYearWords : List (List ℕ) → ℤ → Type 0
AreYearWords words year = (word : List ℕ) × ((words ≡ word ∷ []) ⊎ (words ≡ end_word ∷ word ∷ [])) × NamesYear word year

-- the word `--help`
abbrev pub help_word : List ℕ
help_word = 45 ∷ 45 ∷ 104 ∷ 101 ∷ 108 ∷ 112 ∷ []

-- the word `-h`
abbrev pub short_help_word : List ℕ
short_help_word = 45 ∷ 104 ∷ []

-- the word `--version`
abbrev pub version_word : List ℕ
version_word = 45 ∷ 45 ∷ 118 ∷ 101 ∷ 114 ∷ 115 ∷ 105 ∷ 111 ∷ 110 ∷ []
