-- The program's arguments: this project's own choice.
use Rattle.std.specs.Prelude.{◌≡◌, ◌⊎◌, ℕ, ℤ, Bool, true, false, List, [], ◌∷◌, ◌++◌, codes}
use Rattle.syslog_command_line.specs.Arguments.{AreYearWords, NamesYear, help_word, version_word}
use Rattle.syslog_tidy.specs.declared.args.Output.{Output}
use Rattle.syslog_tidy.specs.declared.args.Output.TheVariants.{Settled, Changed, Refused}
use Rattle.syslog_tidy.specs.declared.args.Task.{Task}
use Rattle.syslog_tidy.specs.declared.args.Task.TheVariants.{Help, Version, Lines}

-- the word `--changed`
abbrev pub changed_word : List ℕ
changed_word = codes "--changed"

-- the word `--refused`
abbrev pub refused_word : List ℕ
refused_word = codes "--refused"

-- the flag that asks for the lines that changed, if any
abbrev pub flag_of : Bool → List (List ℕ)
flag_of false = []
flag_of true = changed_word ∷ []

-- the words are a year, or `--changed` and a year
abbrev pub AreArguments : List (List ℕ) → Bool → ℤ → Type 0
AreArguments words changed year = (word : List ℕ) × (words ≡ flag_of changed ++ word ∷ []) × NamesYear word year

-- the flag that asks for an output, if any
abbrev pub flags_of : Output → List (List ℕ)
flags_of Settled = flag_of false
flags_of Changed = flag_of true
flags_of Refused = refused_word ∷ []

-- no other output's flag begins the words
abbrev pub OnlyFlag : List (List ℕ) → Output → Type 0
OnlyFlag words output = (other : Output) (after : List (List ℕ)) → words ≡ flags_of other ++ after
    → (other ≡ output) ⊎ (other ≡ Settled)

-- the words are a flag, if any, and those that name a year, perhaps after `--`
abbrev pub AskForLines : List (List ℕ) → Output → ℤ → Type 0
AskForLines words output year = (rest : List (List ℕ)) × (words ≡ flags_of output ++ rest) × AreYearWords rest year

-- the words ask for this
abbrev pub AsksFor : List (List ℕ) → Task → Type 0
AsksFor words Help = words ≡ help_word ∷ []
AsksFor words Version = words ≡ version_word ∷ []
AsksFor words (Lines output year) = AskForLines words output year

-- how the program is called: what wrong arguments get
abbrev pub usage_line : List ℕ
usage_line = codes "usage: syslog_tidy [--changed] YEAR\n"
