use Rattle.syslog_dated_forms.proofs.Names.{host_det, no_such_front, no_such_meaning, such_front}
use Rattle.syslog_text.specs.Text.{host}
use Rattle.syslog_dated_forms.specs.ProCurve.{IsSwitch}
use Rattle.syslog_dated_forms.proofs.procurve.switch.Goals as goal

pub returns-in_err-name : goal.returns-in_err-name
returns-in_err-name c = rw c.from_residual.ensures (no_such_front host IsSwitch c.in_err-name.ensures)

pub returns-then-not-is_switch : goal.returns-then-not-is_switch
returns-then-not-is_switch c = no_such_meaning host IsSwitch host_det c.in_ok-name.ensures c.if-not-is_switch.ensures

pub returns : goal.returns
returns c = such_front host IsSwitch c.in_ok-name.ensures c.if-not-is_switch.ensures
