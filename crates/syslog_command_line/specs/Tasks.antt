-- What a filter with dates is asked for: this project's own choice.
use Rattle.std.specs.Prelude.{◌≡◌, ◌⊎◌, ℕ, List, [], ◌∷◌}
use Rattle.syslog_command_line.specs.Arguments.{help_word, short_help_word, version_word}
use Rattle.syslog_command_line.specs.Options.{AsksForOptions}
use Rattle.syslog_command_line.specs.declared.flags.Flag.{Flag}
use Rattle.syslog_command_line.specs.declared.tasks.Task.{Task}
use Rattle.syslog_command_line.specs.declared.tasks.Task.TheVariants.{Help, Version, Lines}

-- the words ask a program that has these flags for this
abbrev pub AsksFor : List Flag → List (List ℕ) → Task → Type 0
AsksFor offered words Help = (words ≡ help_word ∷ []) ⊎ (words ≡ short_help_word ∷ [])
AsksFor offered words Version = words ≡ version_word ∷ []
AsksFor offered words (Lines options) = AsksForOptions offered words options
