-- Lines of Cisco's systems that show no date of the device: it writes none, or how long it has run (IOS, "service
-- timestamps log uptime").
use Rattle.std.specs.Prelude.{◌≡◌, ◌&&◌, Bool, IsTrue, false, not, List, [], ◌∷◌, ◌++◌, Some, None}
use Rattle.std.specs.Char.{is_ascii_digit}
use Rattle.syslog_text.specs.Pieces.Class.{Text, Class, Values, Row, exactly, optional, run, some_run}
use Rattle.syslog_text.specs.Pieces.Rules.{such_that}
use Rattle.syslog_text.specs.Text.{is_blank, colon}
use Rattle.syslog_dated_forms.specs.Address.{has_pair}
use Rattle.syslog_dated_forms.specs.Cisco.{counter_row, label, message_row}
use Rattle.syslog_dated_forms.specs.Filed.{filed_front}
use Rattle.syslog_sent.specs.Named.{◌otherwise◌, is_number}
use Rattle.syslog_sent.specs.Sent.{Form, SentValue, loose}
use Rattle.syslog_sent.specs.Zone.{bare_word}
use Rattle.syslog_sent.specs.declared.dialect.Dialect.TheVariants.{CiscoUndated}

-- ---- how long the device has run: `1w2d: `, `00:01:23: `

abbrev pub begins_digit : Text → Bool
begins_digit [] = false
begins_digit (c ∷ cs) = is_ascii_digit c

-- it begins with a digit, and has a letter
abbrev pub is_uptime : Text → Bool
is_uptime t = begins_digit t && not (is_number t)

abbrev pub IsUptime : Text → Type 0
IsUptime t = IsTrue (is_uptime t)

abbrev pub run_word_row : List Class
run_word_row = such_that bare_word IsUptime ∷ exactly colon ∷ some_run is_blank ∷ []

abbrev pub run_clock_row : List Class
run_clock_row =
    some_run is_ascii_digit ∷ exactly colon ∷ some_run is_ascii_digit ∷ exactly colon ∷ some_run is_ascii_digit
    ∷ exactly colon ∷ some_run is_blank ∷ []

abbrev pub uptime : Class
uptime = Row run_clock_row otherwise Row run_word_row

-- ---- a line: counters, the device's own name and how long it has run, if they are shown, and the message

-- how long a device has run, and no address of IPv6
abbrev pub is_no_name : Text → Bool
is_no_name t = is_uptime t && not (has_pair t)

abbrev pub IsName : Text → Type 0
IsName t = is_no_name t ≡ false

abbrev pub name_label : Class
name_label = such_that label IsName

abbrev pub undated_row : List Class
undated_row =
    run is_blank ∷ optional (exactly colon) ∷ run is_blank ∷ optional (Row counter_row) ∷ optional (Row counter_row)
    ∷ optional name_label ∷ optional uptime ∷ Row message_row ∷ []

abbrev pub undated_sent : Values undated_row → SentValue
undated_sent (_, (_, (_, (_, (_, (host, (_, ((tag, (_, (_, (_, (msg, _))))), _)))))))) =
    loose None host (Some tag) None msg

abbrev pub undated_form : Form
undated_form = record { dialect = CiscoUndated; row = undated_row; Means = λ v sent. sent ≡ undated_sent v }

-- ---- such a line as a collector files it: the date is the collector's

abbrev pub filed_more : List Class
filed_more = optional (Row counter_row) ∷ optional (Row counter_row) ∷ optional uptime ∷ Row message_row ∷ []

abbrev pub timed_row : List Class
timed_row = filed_front ++ filed_more

abbrev pub timed_sent : Values timed_row → SentValue
timed_sent (_, (date, (_, (device, (_, (_, (_, (_, ((tag, (_, (_, (_, (msg, _))))), _))))))))) =
    loose (Some date) (Some device) (Some tag) None msg

abbrev pub timed_form : Form
timed_form = record { dialect = CiscoUndated; row = timed_row; Means = λ v sent. sent ≡ timed_sent v }
