use Rattle.syslog_dated_forms.proofs.Names.{journal_forms, None, refl, take, xr_forms}
use Rattle.syslog_dated_forms.proofs.LedFormLemmas.{no_led_other, no_led_xr}
use Rattle.syslog_dated_forms.proofs.TriedLemmas.{Tried, ◌pass◌, ◌turn◌, led_turn, none_after, over}
use Rattle.syslog_dated_forms.specs.Container.{container_form}
use Rattle.syslog_dated_forms.specs.Esxi.{esxi_form}
use Rattle.syslog_dated_forms.specs.Kiwi.{kiwi_form}
use Rattle.syslog_dated_forms.specs.ProCurve.{procurve_form}
use Rattle.syslog_dated_forms.proofs.dated_forms.from_led.Goals as goal

pub returns : goal.returns
returns c text led =
    let all : Tried text (take 5 xr_forms) None c.or_in-4.new.found = no_led_xr led pass
    led_turn container_form None c.or_in.new.found led c.or_in.ensures turn
    led_turn esxi_form _ _ led c.or_in-2.ensures turn led_turn kiwi_form _ _ led c.or_in-3.ensures turn
    led_turn procurve_form _ _ led c.or_in-4.ensures turn over in
    none_after (take 5 xr_forms) journal_forms (no_led_other led) all refl
