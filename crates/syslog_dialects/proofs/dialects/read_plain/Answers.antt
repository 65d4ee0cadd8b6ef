use Rattle.syslog_dialects.proofs.Names.{found_early, found_late, spread_forms}
use Rattle.syslog_dated_forms.specs.DatedForms as dated
use Rattle.syslog_dialects.proofs.dialects.read_plain.Goals as goal

pub returns-in-Some : goal.returns-in-Some
returns-in-Some c text led =
    found_early dated.plain_forms spread_forms _ c.in-Some.found (c.in-Some.ensures text led)

pub returns-in-None : goal.returns-in-None
returns-in-None c text led = found_late dated.plain_forms spread_forms _ c.read_spread.result
    (c.in-None.ensures text led) (c.read_spread.ensures text led)
