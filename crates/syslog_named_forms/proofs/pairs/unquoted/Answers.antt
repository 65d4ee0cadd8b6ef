use Rattle.syslog_named_forms.proofs.Names.{◌otherwise◌, bare, either_text, first_front, is_not_whitespace, listed}
use Rattle.syslog_named_forms.proofs.Names.{mapped_front, second_front, Text}
use Rattle.syslog_named_forms.proofs.PairLemmas.{run_texted}
use Rattle.syslog_named_forms.proofs.pairs.unquoted.Goals as goal

pub returns-in-Some-clause-reads : goal.returns-in-Some-clause-reads
returns-in-Some-clause-reads c = mapped_front (listed otherwise bare) Text either_text
    (first_front c.in-Some.ensures.reads)

pub returns-in-None-clause-reads : goal.returns-in-None-clause-reads
returns-in-None-clause-reads c = mapped_front (listed otherwise bare) Text either_text
    (second_front c.in-None.ensures.reads (run_texted is_not_whitespace c.split_run.ensures))
