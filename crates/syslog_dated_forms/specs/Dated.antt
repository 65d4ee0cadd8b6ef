-- The dialects whose date alone differs from what the port reads: a date of theirs, and what the port reads after one.
-- 91 is `[`.
use Rattle.std.specs.Prelude.{◌≡◌, List, [], ◌∷◌, None, Some}
use Rattle.syslog_text.specs.Pieces.Class.{Class, Row, Values, exactly, mapped, run, some_run}
use Rattle.syslog_text.specs.Text.{is_blank}
use Rattle.syslog_sent.specs.Date.{any_date, bsd_date, odd_bsd_date, odd_iso_date, iso_date}
use Rattle.syslog_sent.specs.Named.{beginning}
use Rattle.syslog_dated_forms.specs.Cisco.{dated_in, front_year}
use Rattle.syslog_sent.specs.Sent.{Form, SentValue, loose}
use Rattle.syslog_dated_forms.specs.Tail.{TailValue, wide_tail}
use Rattle.syslog_sent.specs.declared.dialect.Dialect.TheVariants.{Bracketed, BsdDate, NearlyRfc3339, Journal}
use Rattle.syslog_sent.specs.declared.sent.SentDate.{SentDate}
use Rattle.syslog_sent.specs.Date.{weekday}

-- what a date and all after it say
abbrev pub dated_sent : SentDate → TailValue → SentValue
dated_sent d t = loose (Some d) t.hostname t.appname t.process t.msg

-- a month date with a fraction, a zone or a year after it
abbrev pub bsd_row : List Class
bsd_row = run is_blank ∷ odd_bsd_date ∷ wide_tail ∷ []

abbrev pub bsd_form : Form
bsd_form = record { dialect = BsdDate; row = bsd_row; Means = λ v sent. sent ≡ dated_sent v.1.0 v.1.1.0 }

-- a date that is nearly one of RFC 3339
abbrev pub iso_row : List Class
iso_row = run is_blank ∷ odd_iso_date ∷ wide_tail ∷ []

abbrev pub iso_form : Form
iso_form = record { dialect = NearlyRfc3339; row = iso_row; Means = λ v sent. sent ≡ dated_sent v.1.0 v.1.1.0 }

-- a month date after the day of the week, as the C library's `ctime` writes it
abbrev pub ctime_row : List Class
ctime_row = run is_blank ∷ weekday ∷ some_run is_blank ∷ bsd_date ∷ wide_tail ∷ []

-- and a message that begins with a bracket, as Apache's does
abbrev pub ctime_message_row : List Class
ctime_message_row =
    run is_blank ∷ weekday ∷ some_run is_blank ∷ bsd_date ∷ some_run is_blank ∷ beginning (exactly (91 ∷ [])) ∷ []

abbrev pub ctime_message_sent : Values ctime_message_row → SentValue
ctime_message_sent (_, (_, (_, (date, (_, (msg, _)))))) = loose (Some date) None None None msg

abbrev pub ctime_message_form : Form
ctime_message_form =
    record { dialect = Bracketed; row = ctime_message_row; Means = λ v sent. sent ≡ ctime_message_sent v }

-- a month date after the year
abbrev pub year_date_row : List Class
year_date_row = front_year ∷ any_date ∷ []

abbrev pub year_date : Class
year_date = mapped (Row year_date_row) SentDate (λ v. dated_in (Some v.0) v.1.0)

abbrev pub year_row : List Class
year_row = run is_blank ∷ year_date ∷ wide_tail ∷ []

abbrev pub year_form : Form
year_form = record { dialect = BsdDate; row = year_row; Means = λ v sent. sent ≡ dated_sent v.1.0 v.1.1.0 }

abbrev pub ctime_form : Form
ctime_form =
    record { dialect = BsdDate; row = ctime_row; Means = λ v sent. sent ≡ dated_sent v.1.1.1.0 v.1.1.1.1.0 }

-- a date of RFC 3339, or nearly one, after the day of the week
abbrev pub journal_row : List Class
journal_row = run is_blank ∷ weekday ∷ some_run is_blank ∷ iso_date ∷ wide_tail ∷ []

abbrev pub journal_form : Form
journal_form =
    record { dialect = Journal; row = journal_row; Means = λ v sent. sent ≡ dated_sent v.1.1.1.0 v.1.1.1.1.0 }
