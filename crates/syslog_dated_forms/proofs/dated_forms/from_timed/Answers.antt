use Rattle.syslog_dated_forms.proofs.Names.{[], here}
use Rattle.syslog_dated_forms.proofs.OtherFormLemmas.{led_date}
use Rattle.syslog_dated_forms.specs.Undated.{timed_form}
use Rattle.syslog_dated_forms.proofs.dated_forms.from_timed.Goals as goal

pub returns-in_err-sent : goal.returns-in_err-sent
returns-in_err-sent c text led = rw c.from_residual.ensures
    (c.in_err-sent.ensures _ _ led.gap (led_date c.args.led.now led), tt)

pub returns : goal.returns
returns c text led = here timed_form [] _ _
    (c.in_ok-sent.ensures _ _ led.gap (led_date c.args.led.now led))
