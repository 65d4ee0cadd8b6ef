-- Lines of the log files of Kiwi Syslog Server: a date, facility and severity, the host and the text, with tabs between
-- them. 9 is a tab, 46 `.`.
use Rattle.std.specs.Prelude.{◌≡◌, List, [], ◌∷◌, None, Some}
use Rattle.syslog_text.specs.Pieces.Class.{Class, Values, Row, exactly, rest, run, some_run}
use Rattle.syslog_text.specs.Text.{host, is_blank}
use Rattle.syslog_sent.specs.Date.{iso_date}
use Rattle.syslog_sent.specs.Runs.{is_plain_char}
use Rattle.syslog_sent.specs.Sent.{Form, SentValue, loose}
use Rattle.syslog_sent.specs.declared.dialect.Dialect.TheVariants.{SeverityFirst}

-- `Local7.Notice`, between tabs
abbrev pub level_row : List Class
level_row =
    exactly (9 ∷ []) ∷ some_run is_plain_char ∷ exactly (46 ∷ []) ∷ some_run is_plain_char ∷ exactly (9 ∷ []) ∷ []

abbrev pub kiwi_row : List Class
kiwi_row = run is_blank ∷ iso_date ∷ Row level_row ∷ host ∷ exactly (9 ∷ []) ∷ run is_blank ∷ rest ∷ []

abbrev pub kiwi_sent : Values kiwi_row → SentValue
kiwi_sent (_, (date, (_, (hostname, (_, (_, (msg, _))))))) = loose (Some date) hostname None None msg

abbrev pub kiwi_form : Form
kiwi_form = record { dialect = SeverityFirst; row = kiwi_row; Means = λ v sent. sent ≡ kiwi_sent v }
