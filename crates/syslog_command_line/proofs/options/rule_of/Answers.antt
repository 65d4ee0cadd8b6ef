use Rattle.syslog_command_line.proofs.Names.{◌≡◌, None, refl}
use Rattle.jiff.specs.Placed.{IsPosixZone}
use Rattle.jiff.specs.Words.{plain_zone, read_whole}
use Rattle.syslog_command_line.proofs.{OptionLemmas.by_reader, ValueLemmas.no_rule}
use Rattle.syslog_command_line.specs.declared.flags.Flag.TheVariants.{Zone}
use Rattle.syslog_command_line.proofs.options.rule_of.Goals as goal

pub returns-in-Some : goal.returns-in-Some
returns-in-Some c = λ flags holds. by_reader flags Zone (λ text it. IsPosixZone text (plain_zone it))
    (λ text. read_whole text ≡ None) (λ text none is. no_rule text is.0 none is.1) c.args.given.now _ holds
    (rw (← c.in-Some.ensures) c.zone_of_rule.ensures)

pub returns-in-None : goal.returns-in-None
returns-in-None c = λ flags holds. by_reader flags Zone (λ text it. IsPosixZone text (plain_zone it))
    (λ text. read_whole text ≡ None) (λ text none is. no_rule text is.0 none is.1) c.args.given.now _ holds
    (rw (← c.in-None.ensures) refl)
