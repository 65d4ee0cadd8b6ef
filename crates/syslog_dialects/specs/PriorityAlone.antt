-- A priority, and a text of no other form: a program's line without a date, or a message alone, as MikroTik's routers
-- write. 91 is `[`, 93 `]`.
use Rattle.std.specs.Prelude.{◌≡◌, ◌≢◌, List, [], ◌∷◌, Some, None}
use Rattle.std.specs.Char.{is_ascii_digit}
use Rattle.syslog_named_forms.specs.Devices.{point_word}
use Rattle.syslog_text.specs.Pieces.Class.{Text, Class, Values, NoFront, Row, exactly, run, some_run, rest, texted}
use Rattle.syslog_text.specs.Pieces.Rules.{such_that}
use Rattle.syslog_text.specs.Text.{colon, host, is_blank, number}
use Rattle.syslog_pieces.specs.Timestamp.MonthDate.{month_date}
use Rattle.syslog_sent.specs.Named.{name, program}
use Rattle.syslog_sent.specs.Sent.{Form, SentValue, loose}
use Rattle.syslog_sent.specs.declared.dialect.Dialect.TheVariants.{NoHost, PriorityAlone, UniFi}

-- a number and a blank, as a version of RFC 5424
abbrev pub version_row : List Class
version_row = number 4294967295 ∷ some_run is_blank ∷ []

-- the text is not empty, and begins with neither a month date nor a version
pub record IsAlone (text : Text) : Type 0 where
  pub some : text ≢ []
  pub undated : NoFront month_date text
  pub unversioned : NoFront (Row version_row) text

-- a program with the number of its process, as Python's SysLogHandler with an ident and older OpenWrt send
abbrev pub program_row : List Class
program_row = run is_blank ∷ name ∷ exactly (91 ∷ []) ∷ texted (some_run is_ascii_digit) ∷ exactly (93 ∷ [])
    ∷ exactly colon ∷ run is_blank ∷ rest ∷ []

abbrev pub program_sent : Values program_row → SentValue
program_sent (_, (app, (_, (id, (_, (_, (_, (msg, _)))))))) = loose None None (Some app) (Some id) msg

abbrev pub program_form : Form
program_form = record { dialect = NoHost; row = program_row; Means = λ v sent. sent ≡ program_sent v }

-- an access point of UniFi that sends no date
abbrev pub point_row : List Class
point_row = run is_blank ∷ host ∷ some_run is_blank ∷ point_word ∷ exactly colon ∷ some_run is_blank ∷ program
    ∷ run is_blank ∷ rest ∷ []

abbrev pub point_sent : Values point_row → SentValue
point_sent (_, (h, (_, (_, (_, (_, (p, (_, (msg, _))))))))) = loose None h (Some p.name) p.process msg

abbrev pub point_form : Form
point_form = record { dialect = UniFi; row = point_row; Means = λ v sent. sent ≡ point_sent v }

abbrev pub alone_row : List Class
alone_row = run is_blank ∷ such_that rest IsAlone ∷ []

abbrev pub AloneSays : Values alone_row → SentValue → Type 0
AloneSays (_, (t, _)) s = s ≡ loose None None None None t

abbrev pub alone_form : Form
alone_form = record { dialect = PriorityAlone; row = alone_row; Means = AloneSays }
