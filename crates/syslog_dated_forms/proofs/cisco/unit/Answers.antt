use Rattle.syslog_dated_forms.proofs.CiscoLemmas.{no_unit, not_unit, unit_front}
use Rattle.syslog_dated_forms.proofs.cisco.unit.Goals as goal

pub returns-in_err-rest : goal.returns-in_err-rest
returns-in_err-rest c = rw c.from_residual.ensures (no_unit c.in_err-rest.ensures)

pub returns-then-not-begins_with_mark : goal.returns-then-not-begins_with_mark
returns-then-not-begins_with_mark c = not_unit c.in_ok-rest.ensures.1 c.if-not-begins_with_mark.ensures

pub returns : goal.returns
returns c = (_, unit_front c.in_ok-rest.ensures.1 c.if-not-begins_with_mark.ensures)
