use Rattle.syslog_named_forms.proofs.Names.{◌otherwise◌, either_text, first_front, mapped_front, quoted, second_front}
use Rattle.syslog_named_forms.proofs.Names.{Text, unquoted}
use Rattle.syslog_named_forms.proofs.pairs.any_value.Goals as goal

pub returns-in-Some-clause-reads : goal.returns-in-Some-clause-reads
returns-in-Some-clause-reads c = mapped_front (quoted otherwise unquoted) Text either_text
    (first_front c.in-Some.ensures.reads)

pub returns-in-None-clause-reads : goal.returns-in-None-clause-reads
returns-in-None-clause-reads c = mapped_front (quoted otherwise unquoted) Text either_text
    (second_front c.in-None.ensures.reads c.unquoted.ensures.reads)
