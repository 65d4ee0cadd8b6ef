use Rattle.std.proofs.Common.{All, take, ◌≢◌}
use Rattle.syslog_command_line.specs.Flags.{flag_word}
use Rattle.syslog_command_line.proofs.flags.find_flag.Given as goal

abbrev pub invariant-loop-flag : goal.invariant-loop-flag
invariant-loop-flag l = All (λ flag. flag_word flag ≢ l.word) (take l.flag-index l.flags)
