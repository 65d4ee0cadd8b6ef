use Rattle.syslog_dated_forms.proofs.Names.{◌otherwise◌, Bool, first_front, mapped_front, no_mapped, no_otherwise}
use Rattle.syslog_dated_forms.proofs.Names.{second_front}
use Rattle.syslog_dated_forms.specs.Ucm.{afternoon, is_late, morning}
use Rattle.syslog_dated_forms.proofs.ucm.half.Goals as goal

pub returns-in-Some : goal.returns-in-Some
returns-in-Some c = mapped_front (morning otherwise afternoon) Bool is_late (first_front c.in-Some.ensures.1)

pub returns-in_err-rest : goal.returns-in_err-rest
returns-in_err-rest c = rw c.from_residual.ensures (no_mapped (morning otherwise afternoon) Bool is_late
    (no_otherwise c.in_default.ensures c.in_err-rest.ensures))

pub returns : goal.returns
returns c = mapped_front (morning otherwise afternoon) Bool is_late
    (second_front c.in_default.ensures c.in_ok-rest.ensures.1)
