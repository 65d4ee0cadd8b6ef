use Rattle.syslog_command_line.proofs.OptionLemmas.{by_reader}
use Rattle.syslog_command_line.specs.Flags.{NamesSeverity}
use Rattle.syslog_command_line.specs.declared.flags.Flag.TheVariants.{Severity}
use Rattle.syslog_command_line.proofs.options.severity_of.Goals as goal

pub returns : goal.returns
returns c = λ flags holds. by_reader flags Severity NamesSeverity _ (λ text none is. none is.0 is.1) c.args.given.now _
    holds (rw c.value.ensures at c.and_then.ensures)
