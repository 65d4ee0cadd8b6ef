use Rattle.syslog_named_forms.proofs.Names.{notes_value, shown}
use Rattle.syslog_named_forms.proofs.PairLemmas.{unnoted}
use Rattle.syslog_named_forms.proofs.pairs.noted_more.Goals as goal

pub returns-then-not-may_be_noted : goal.returns-then-not-may_be_noted
returns-then-not-may_be_noted c = unnoted (notes_value c.args.notes) (shown c.args.pair.key) (shown c.args.pair.value)
    c.if-not-may_be_noted.ensures
