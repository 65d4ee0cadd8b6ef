use Rattle.syslog_command_line.proofs.{Names.refl, OptionLemmas.by_has}
use Rattle.syslog_command_line.specs.declared.flags.Flag.TheVariants.{Nul, OctetCounted}
use Rattle.syslog_command_line.proofs.options.framing_of.Goals as goal

pub returns-then-has : goal.returns-then-has
returns-then-has c = λ flags holds.
    by_has flags Nul c.args.given.now _ _ holds _ c.has.ensures (λ on text. refl) (λ off. cc)

pub returns-then-has-2 : goal.returns-then-has-2
returns-then-has-2 c = λ flags holds.
    by_has flags Nul c.args.given.now _ _ holds _ c.has.ensures (λ on text. cc)
    (λ none. by_has flags OctetCounted c.args.given.now _ _ holds _ c.has-2.ensures (λ on text. refl) (λ off. cc))

pub returns : goal.returns
returns c = λ flags holds.
    by_has flags Nul c.args.given.now _ _ holds _ c.has.ensures (λ on text. cc)
    (λ none. by_has flags OctetCounted c.args.given.now _ _ holds _ c.has-2.ensures (λ on text. cc) (λ off. refl))
