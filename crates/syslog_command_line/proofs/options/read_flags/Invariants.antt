use Rattle.syslog_command_line.proofs.{Names.length, OptionLemmas.ReadSoFar}
use Rattle.syslog_command_line.specs.Words.{texts}
use Rattle.syslog_command_line.proofs.options.read_flags.Given as goal

abbrev pub invariant-flags : goal.invariant-flags
invariant-flags l = ReadSoFar l.offered (texts l.words) l.given (texts l.rest)

abbrev pub decreases-flags : goal.decreases-flags
decreases-flags l = length (texts l.rest)
