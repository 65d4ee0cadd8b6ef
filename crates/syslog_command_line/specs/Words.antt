-- The words that a filter with dates is called with: this project's own choice.
use Rattle.std.specs.Global.{Global}
use Rattle.std.specs.Prelude.{◌≡◌, ◌⊎◌, ℕ, List, [], ◌∷◌, String, ⊤, map, string_bytes}
use Rattle.std.specs.List.{Contains}
use Rattle.syslog_loose.specs.declared.today.Today.{Today}
use Rattle.syslog_command_line.specs.Arguments.{NamesDate, end_word}
use Rattle.syslog_command_line.specs.declared.words.Wrong.{Wrong}
use Rattle.syslog_command_line.specs.declared.words.Wrong.TheVariants.{Word, Missing, Unreadable}

-- the words' bytes
abbrev pub texts : List (String Global) → List (List ℕ)
texts words = map (λ word. string_bytes word) words

-- the words are a date alone, or `--` and a date
abbrev pub AreDateWords : List (List ℕ) → Today → Type 0
AreDateWords words today =
    (word : List ℕ) × ((words ≡ word ∷ []) ⊎ (words ≡ end_word ∷ word ∷ [])) × NamesDate word today

-- the word that is said to be wrong is one of them
abbrev pub IsAmong : List (List ℕ) → Wrong → Type 0
IsAmong words (Word word) = Contains words word.now
IsAmong words Missing = ⊤
IsAmong words Unreadable = ⊥
