use Rattle.syslog_command_line.proofs.Names.{◌≡◌, of_z, rules, to_z, w32}
use Rattle.syslog_command_line.proofs.OptionLemmas.{by_reader, or_usual}
use Rattle.syslog_command_line.specs.Arguments.{NamesOffset}
use Rattle.syslog_command_line.specs.declared.flags.Flag.TheVariants.{Offset}
use Rattle.syslog_command_line.proofs.options.offset_of.Goals as goal

pub returns-clause-value : goal.returns-clause-value
returns-clause-value c =
    let plain : to_z w32 (of_z w32 c.unwrap_or.result) ≡ c.unwrap_or.result = search rules in
    λ flags holds. rw (plain, c.unwrap_or.ensures) (or_usual NamesOffset flags Offset _ _
    (by_reader flags Offset NamesOffset _ (λ text none is. none is.0 is.1) c.args.given.now _ holds
    (rw c.value.ensures at c.and_then.ensures)))
