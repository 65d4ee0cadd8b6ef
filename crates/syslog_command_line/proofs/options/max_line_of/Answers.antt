use Rattle.syslog_command_line.proofs.OptionLemmas.{by_reader, or_usual}
use Rattle.syslog_command_line.specs.Flags.{NamesSize}
use Rattle.syslog_command_line.specs.declared.flags.Flag.TheVariants.{MaxLine}
use Rattle.syslog_command_line.proofs.options.max_line_of.Goals as goal

pub returns : goal.returns
returns c = λ flags holds. rw c.unwrap_or.ensures (or_usual NamesSize flags MaxLine _ _
    (by_reader flags MaxLine NamesSize _ (λ text none is. none is.0 is.1) c.args.given.now _ holds
    (rw c.value.ensures at c.and_then.ensures)))
