-- Lines of Cisco's systems as a collector files them (rsyslog, syslog-ng). The collector's date and the name of the
-- device come first, and then the line as the device sent it, with a date of its own.
use Rattle.std.specs.Prelude.{◌≡◌, List, [], ◌∷◌, ◌++◌, Some, None}
use Rattle.syslog_text.specs.Pieces.Class.{Text, Class, Values, Row, run, some_run}
use Rattle.syslog_text.specs.Pieces.Rules.{such_that}
use Rattle.syslog_text.specs.Text.{is_blank}
use Rattle.syslog_dated_forms.specs.Cisco.{IsAsa, IsNxOs, cisco_row, dated_in, either_host, origin}
use Rattle.syslog_sent.specs.Date.{any_date}
use Rattle.syslog_sent.specs.Sent.{Form, SentValue, loose}
use Rattle.syslog_sent.specs.declared.dialect.Dialect.{Dialect}
use Rattle.syslog_sent.specs.declared.dialect.Dialect.TheVariants.{CiscoAsa, CiscoIos, CiscoNxOs}

-- the collector's date and the device
abbrev pub filed_front : List Class
filed_front = run is_blank ∷ any_date ∷ some_run is_blank ∷ origin ∷ some_run is_blank ∷ []

abbrev pub filed_row : Class → List Class
filed_row C = filed_front ++ C ∷ []

-- the date is the device's, and so is the host, where it is shown
abbrev pub filed_sent : Text → Values cisco_row → SentValue
filed_sent device (host, ((y, (date, _)), (other, ((tag, (_, (_, (_, (msg, _))))), _)))) =
    loose (Some (dated_in y date)) (either_host (either_host host other) (Some device)) (Some tag) None msg

abbrev pub FiledSays : Values (filed_row (Row cisco_row)) → SentValue → Type 0
FiledSays (_, (_, (_, (device, (_, (line, _)))))) s = s ≡ filed_sent device line

abbrev pub filed_form : Dialect → (Values cisco_row → Type 0) → Form
filed_form dialect P = record {
  dialect = dialect;
  row = filed_row (such_that (Row cisco_row) P);
  Means = FiledSays;
}

abbrev pub IsAny : Values cisco_row → Type 0
IsAny vs = Unit {0}

abbrev pub filed_forms : List Form
filed_forms = filed_form CiscoAsa IsAsa ∷ filed_form CiscoNxOs IsNxOs ∷ filed_form CiscoIos IsAny ∷ []
