use Rattle.syslog_named_forms.proofs.Names.{device_tails, program_tails, tail_forms}
use Rattle.syslog_named_forms.proofs.NamedFormLemmas.{named_early, named_late}
use Rattle.syslog_named_forms.proofs.named_forms.of_program_or_device.Goals as goal

pub returns-in-Some : goal.returns-in-Some
returns-in-Some c after d text front = named_early (tail_forms program_tails) (tail_forms device_tails) d text
    c.in-Some.found (c.in-Some.ensures after d text front)

pub returns : goal.returns
returns c after d text front = named_late (tail_forms program_tails) (tail_forms device_tails) d text
    c.of_device.result (c.in_default.ensures after d text front) (c.of_device.ensures after d text front)
