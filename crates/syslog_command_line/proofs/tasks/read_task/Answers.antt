use Rattle.syslog_command_line.proofs.Names.{◌≡◌, ℕ, List, [], ◌∷◌}
use Rattle.std.proofs.Common.{◌⊎◌}
use Rattle.std.proofs.lemmas.Bool.{iff_false}
use Rattle.syslog_command_line.specs.Arguments.{help_word, short_help_word, version_word}
use Rattle.syslog_command_line.specs.{Options.AsksForOptions, Tasks.AsksFor, declared.tasks.Task.Task}
use Rattle.syslog_command_line.specs.declared.flags.Flag.{Flag}
use Rattle.syslog_command_line.specs.declared.options.Options.{Options}
use Rattle.syslog_command_line.specs.declared.tasks.Task.TheVariants.{Help, Version, Lines}
use Rattle.syslog_command_line.proofs.tasks.read_task.Goals as goal

-- where no word for itself is alone and no lines are asked for, nothing is
no_task : (offered : List Flag) (words : List (List ℕ))
    → ¬ ((words ≡ help_word ∷ []) ⊎ (words ≡ short_help_word ∷ [])) → ¬ (words ≡ version_word ∷ [])
    → ((options : Options) → ¬ (AsksForOptions offered words options)) → (task : Task) → ¬ (AsksFor offered words task)
no_task offered words no_help no_version none Help = no_help
no_task offered words no_help no_version none Version = no_version
no_task offered words no_help no_version none (Lines options) = none options

pub returns-in-Err : goal.returns-in-Err
returns-in-Err c = (
  c.in-Err.ensures.0,
  no_task c.args.offered.now _ (iff_false c.asks_for_help.ensures c.if-asks_for_help.false)
      (iff_false c.is_only.ensures c.if-is_only.false) c.in-Err.ensures.1,
)
