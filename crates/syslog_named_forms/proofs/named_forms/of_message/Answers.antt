use Rattle.syslog_named_forms.proofs.Names.{dated_program_forms, message_tails, tail_forms}
use Rattle.syslog_named_forms.proofs.NamedFormLemmas.{named_early, named_late}
use Rattle.syslog_named_forms.proofs.named_forms.of_message.Goals as goal

pub returns-in-Some : goal.returns-in-Some
returns-in-Some c after d text front = named_early (tail_forms message_tails) dated_program_forms d text
    c.in-Some.found (c.in-Some.ensures after c.of-begun.ensures d text front)

pub returns : goal.returns
returns c after d text front = named_late (tail_forms message_tails) dated_program_forms d text
    c.of_program_or_device.result (c.in_default.ensures after c.of-begun.ensures d text front)
    (c.of_program_or_device.ensures after d text front)
