-- Lines of HP's ProCurve and ArubaOS-Switch: a date, the switch, the number of the event, the module and a colon.
use Rattle.std.specs.Prelude.{◌≡◌, List, [], ◌∷◌, Option, Some, None, MatchOption}
use Rattle.std.specs.Char.{is_ascii_digit}
use Rattle.syslog_text.specs.Pieces.Class.{Text, Class, Values, run, some_run, exactly, rest}
use Rattle.syslog_text.specs.Pieces.Rules.{such_that}
use Rattle.syslog_text.specs.Text.{is_blank, colon, host}
use Rattle.syslog_dated_forms.specs.Cisco.{begins_host}
use Rattle.syslog_sent.specs.Date.{any_date}
use Rattle.syslog_sent.specs.Named.{BeginsWith, is_letter}
use Rattle.syslog_sent.specs.Sent.{Form, SentValue, loose}
use Rattle.syslog_sent.specs.Zone.{bare_word}
use Rattle.syslog_sent.specs.declared.dialect.Dialect.TheVariants.{ProCurve}

-- the module, as `ports`
abbrev pub system_module : Class
system_module = such_that bare_word (BeginsWith is_letter)

-- the switch, whose address may be one of IPv6, with colons
abbrev pub IsSwitch : Option Text → Type 0
IsSwitch name = MatchOption name ⊥ (BeginsWith begins_host)

abbrev pub switch : Class
switch = such_that host IsSwitch

abbrev pub procurve_row : List Class
procurve_row =
    run is_blank ∷ any_date ∷ some_run is_blank ∷ switch ∷ some_run is_blank ∷ some_run is_ascii_digit
    ∷ some_run is_blank ∷ system_module ∷ exactly colon ∷ run is_blank ∷ rest ∷ []

abbrev pub procurve_sent : Values procurve_row → SentValue
procurve_sent (_, (date, (_, (name, (_, (_, (_, (app, (_, (_, (msg, _))))))))))) =
    loose (Some date) name (Some app) None msg

abbrev pub procurve_form : Form
procurve_form = record { dialect = ProCurve; row = procurve_row; Means = λ v sent. sent ≡ procurve_sent v }
