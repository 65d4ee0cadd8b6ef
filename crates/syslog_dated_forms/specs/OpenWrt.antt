-- Lines of OpenWrt's `logread`: the day of the week, the date and the year, the facility and the severity, and no host.
-- (`log/logread.c` of ubox.)
use Rattle.std.specs.Prelude.{◌≡◌, List, [], ◌∷◌, Some, None}
use Rattle.syslog_text.specs.Pieces.Class.{Class, Values, Row, run, some_run, rest}
use Rattle.syslog_text.specs.Text.{is_blank}
use Rattle.syslog_sent.specs.Date.{any_date}
use Rattle.syslog_sent.specs.Date.{weekday}
use Rattle.syslog_sent.specs.Named.{program}
use Rattle.syslog_sent.specs.Selector.{selector_row}
use Rattle.syslog_sent.specs.Sent.{Form, SentValue, loose}
use Rattle.syslog_sent.specs.declared.dialect.Dialect.TheVariants.{SeverityFirst}

abbrev pub logread_row : List Class
logread_row = run is_blank ∷ weekday ∷ some_run is_blank ∷ any_date ∷ some_run is_blank ∷ Row selector_row
    ∷ some_run is_blank ∷ program ∷ run is_blank ∷ rest ∷ []

abbrev pub logread_sent : Values logread_row → SentValue
logread_sent (_, (_, (_, (date, (_, (_, (_, (p, (_, (msg, _)))))))))) = loose (Some date) None (Some p.name) p.process
    msg

abbrev pub logread_form : Form
logread_form = record { dialect = SeverityFirst; row = logread_row; Means = λ v sent. sent ≡ logread_sent v }
