-- Headers that are nearly of RFC 5424: a version, a date that may be of another form, and what follows in one of six
-- ways.
use Rattle.std.specs.Prelude.{◌≡◌, ℕ, List, [], ◌∷◌, ◌++◌, Option, Some, None}
use Rattle.syslog_text.specs.Pieces.Class.{Text, Class, Values, exactly, rest, run, some_run}
use Rattle.syslog_text.specs.Text.{dash, host, is_blank, number, word}
use Rattle.syslog_sent.specs.Date.{any_date}
use Rattle.syslog_sent.specs.Named.{beginning, program}
use Rattle.syslog_sent.specs.Sent.{Form, SentValue}
use Rattle.syslog_sent.specs.Zone.{ended}
use Rattle.syslog_elements.specs.StructuredData.Pairs.{paired}
use Rattle.syslog_sent.specs.declared.dialect.Dialect.TheVariants.{CheckPoint, Heroku, NearlyRfc5424}
use Rattle.syslog_sent.specs.declared.sent.SentDate.{SentDate}
use Rattle.syslog_named_forms.specs.Untagged.{dialect_of, mark_class}
use Rattle.syslog_named_forms.specs.declared.untagged.Mark.{Mark}

-- a version of up to three digits (RFC 5424 §6.2.2), a date and a host, with blanks after each
abbrev pub head_row : List Class
head_row =
    number 999 ∷ some_run is_blank ∷ any_date ∷ some_run is_blank ∷ host ∷ some_run is_blank ∷ []

-- the program and the process after the host, and the message id, with blanks after each
abbrev pub source_row : List Class
source_row = word ∷ some_run is_blank ∷ word ∷ some_run is_blank ∷ []

abbrev pub ids_row : List Class
ids_row = source_row ++ word ∷ some_run is_blank ∷ []

abbrev pub said : ℕ → SentDate → Option Text → Option Text → Option Text → Option Text → Text → SentValue
said version date hostname appname process msgid msg = record {
  version = Some version;
  date = Some date;
  hostname = hostname;
  appname = appname;
  process = process;
  msgid = msgid;
  msg = msg;
}

-- ---- a message of CEF or LEEF: `1 2026-03-02T06:33:04Z h CEF:0|..`

abbrev pub vendor_more : Mark → List Class
vendor_more m = beginning (mark_class m) ∷ []

abbrev pub vendor_row : Mark → List Class
vendor_row m = head_row ++ vendor_more m

abbrev pub vendor_says : (m : Mark) → Values (vendor_row m) → SentValue
vendor_says m (version, (_, (date, (_, (h, (_, (msg, _))))))) = said version date h None None None msg

abbrev pub vendor_form : Mark → Form
vendor_form m = record { dialect = dialect_of m; row = vendor_row m; Means = λ values s. s ≡ vendor_says m values }

-- ---- Check Point's element, which begins the message: `1 2026-03-02T06:33:04Z h CheckPoint 12 - [src:"10.0.0.3"]`

abbrev pub paired_more : List Class
paired_more = ids_row ++ beginning paired ∷ []

abbrev pub paired_row : List Class
paired_row = head_row ++ paired_more

abbrev pub paired_says : Values paired_row → SentValue
paired_says (version, (_, (date, (_, (h, (_, (app, (_, (process, (_, (id, (_, (msg, _))))))))))))) =
    said version date h app process id msg

abbrev pub paired_form : Form
paired_form = record { dialect = CheckPoint; row = paired_row; Means = λ values s. s ≡ paired_says values }

-- ---- `-` for the structured data: `1 2026-03-02T06:33:04+0100 h app 12 ID - text`

abbrev pub nil : Class
nil = ended (exactly dash)

abbrev pub nil_last : List Class
nil_last = nil ∷ run is_blank ∷ rest ∷ []

abbrev pub nil_more : List Class
nil_more = ids_row ++ nil_last

abbrev pub nil_row : List Class
nil_row = head_row ++ nil_more

abbrev pub nil_says : Values nil_row → SentValue
nil_says (version, (_, (date, (_, (h, (_, (app, (_, (process, (_, (id, (_, (_, (_, (msg, _))))))))))))))) =
    said version date h app process id msg

abbrev pub nil_form : Form
nil_form = record { dialect = NearlyRfc5424; row = nil_row; Means = λ values s. s ≡ nil_says values }

-- ---- a tag, as RFC 3164 has it: `1 2026-03-02T06:33:04Z h app[12]: text`

abbrev pub tag_more : List Class
tag_more = program ∷ run is_blank ∷ rest ∷ []

abbrev pub tag_row : List Class
tag_row = head_row ++ tag_more

abbrev pub tag_says : Values tag_row → SentValue
tag_says (version, (_, (date, (_, (h, (_, (p, (_, (msg, _))))))))) =
    said version date h (Some p.name) p.process None msg

abbrev pub tag_form : Form
tag_form = record { dialect = NearlyRfc5424; row = tag_row; Means = λ values s. s ≡ tag_says values }

-- ---- no structured data, not even `-`: `1 2026-03-02T06:33:04+00:00 h app web.3 - text`

-- Heroku (Logplex) and Cloud Foundry write so
abbrev pub heroku_last : List Class
heroku_last = exactly dash ∷ some_run is_blank ∷ rest ∷ []

abbrev pub heroku_more : List Class
heroku_more = source_row ++ heroku_last

abbrev pub heroku_row : List Class
heroku_row = head_row ++ heroku_more

abbrev pub heroku_says : Values heroku_row → SentValue
heroku_says (version, (_, (date, (_, (h, (_, (app, (_, (process, (_, (_, (_, (msg, _))))))))))))) =
    said version date h app process None msg

abbrev pub heroku_form : Form
heroku_form = record { dialect = Heroku; row = heroku_row; Means = λ values s. s ≡ heroku_says values }

-- ---- the message at once, elements included: `1 2026-03-02 06:33:04 h app 12 ID [a b="c"] text`

abbrev pub bare_more : List Class
bare_more = ids_row ++ rest ∷ []

abbrev pub bare_row : List Class
bare_row = head_row ++ bare_more

abbrev pub bare_says : Values bare_row → SentValue
bare_says (version, (_, (date, (_, (h, (_, (app, (_, (process, (_, (id, (_, (msg, _))))))))))))) =
    said version date h app process id msg

abbrev pub bare_form : Form
bare_form = record { dialect = NearlyRfc5424; row = bare_row; Means = λ values s. s ≡ bare_says values }
