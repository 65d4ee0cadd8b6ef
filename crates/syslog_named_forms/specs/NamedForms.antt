-- The forms that are recognised by what follows the date, in the order in which they are tried.
use Rattle.std.specs.Prelude.{◌≡◌, List, [], ◌∷◌, ◌++◌, Some, None}
use Rattle.syslog_text.specs.Pieces.Class.{Class, Values, Row, run, some_run, mapped}
use Rattle.syslog_text.specs.Text.{is_blank}
use Rattle.syslog_sent.specs.Date.{any_date}
use Rattle.syslog_sent.specs.Named.{◌otherwise◌, NamedTexts, beginning, hosted}
use Rattle.syslog_named_forms.specs.Devices as devices
use Rattle.syslog_named_forms.specs.Graded as graded
use Rattle.syslog_named_forms.specs.Monotonic.{monotonic_form}
use Rattle.syslog_named_forms.specs.NearHeader.{bare_form, heroku_form, nil_form, paired_form, tag_form, vendor_form}
use Rattle.syslog_named_forms.specs.Pairs.{pairs_form}
use Rattle.syslog_named_forms.specs.Programs as programs
use Rattle.syslog_sent.specs.Sent.{Form, SentValue, loose}
use Rattle.syslog_named_forms.specs.Unified as unified
use Rattle.syslog_named_forms.specs.Untagged.{dialect_of, mark_class, marked, marked_of, marks}
use Rattle.syslog_sent.specs.declared.dialect.Dialect.{Dialect}
use Rattle.syslog_sent.specs.declared.dialect.Dialect.TheVariants as dialect
use Rattle.syslog_sent.specs.declared.sent.SentDate.{SentDate}
use Rattle.syslog_named_forms.specs.declared.untagged.Mark.{Mark}
use Rattle.syslog_named_forms.specs.declared.untagged.Mark.TheVariants as mark

-- blanks or none, a date, and blanks
abbrev pub front_row : List Class
front_row = run is_blank ∷ any_date ∷ some_run is_blank ∷ []

-- what names and a message after a date say
abbrev pub says : SentDate → NamedTexts → SentValue
says d n = loose (Some d) n.hostname n.appname n.process n.msg

-- a date, and a piece of the class after it
abbrev pub dated_row : (C : Class) → (C.Value → NamedTexts) → List Class
dated_row C names = front_row ++ mapped C NamedTexts names ∷ []

abbrev pub Says : (C : Class) (names : C.Value → NamedTexts) → Values (dated_row C names) → SentValue → Type 0
Says C names (_, (d, (_, (n, _)))) s = s ≡ says d n

abbrev pub dated_form : Dialect → (C : Class) → (C.Value → NamedTexts) → Form
dated_form dialect C names = record { dialect = dialect; row = dated_row C names; Means = Says C names }

-- ---- lists of such forms

-- a dialect, and what follows the date in it
pub record Tail : Type 1 where
  pub dialect : Dialect
  pub after : Class
  pub names : after.Value → NamedTexts

abbrev pub tail_forms : List Tail → List Form
tail_forms [] = []
tail_forms (T ∷ Ts) = dated_form T.dialect T.after T.names ∷ tail_forms Ts

-- messages without a program
abbrev pub marked_tail : Mark → Tail
marked_tail m = record { dialect = dialect_of m; after = marked m; names = marked_of }

abbrev pub marked_tails : List Mark → List Tail
marked_tails [] = []
marked_tails (m ∷ ms) = marked_tail m ∷ marked_tails ms

abbrev pub message_tails : List Tail
message_tails = marked_tails marks

-- lines of programs
abbrev pub forwarded_tail : Tail
forwarded_tail =
    record { dialect = dialect.Forwarded; after = hosted programs.passed_on; names = programs.relayed_of }

abbrev pub severity_tail : Tail
severity_tail =
    record { dialect = dialect.SeverityFirst; after = Row programs.severity_row; names = programs.severity_of }

abbrev pub worded_tail : Tail
worded_tail = record { dialect = dialect.SpacedName; after = Row programs.worded_row; names = programs.worded_of }

abbrev pub hostless_tail : Tail
hostless_tail = record { dialect = dialect.NoHost; after = Row programs.hostless_row; names = programs.hostless_of }

abbrev pub serial_tail : Tail
serial_tail = record {
  dialect = dialect.WatchGuard;
  after = programs.serial otherwise programs.box;
  names = programs.one_of_names;
}

abbrev pub access_tail : Tail
access_tail = record { dialect = dialect.UniFi; after = Row programs.access_row; names = programs.access_of }

abbrev pub unified_tail : Tail
unified_tail = record { dialect = dialect.UnifiedLog; after = Row unified.log_row; names = unified.log_of }

abbrev pub untagged_tail : Tail
untagged_tail =
    record { dialect = dialect.Untagged; after = Row programs.untagged_row; names = programs.untagged_of }

-- lines of devices
abbrev pub addressed_tail : Tail
addressed_tail = record { dialect = dialect.UniFi; after = Row devices.addressed_row; names = devices.addressed_of }

abbrev pub titled_tail : Tail
titled_tail = record { dialect = dialect.SpacedName; after = Row devices.titled_row; names = devices.titled_of }

abbrev pub compact_tail : Tail
compact_tail = record { dialect = dialect.UnifiedLog; after = Row unified.compact_row; names = unified.compact_of }

abbrev pub device_tails : List Tail
device_tails = addressed_tail ∷ titled_tail ∷ compact_tail ∷ []

-- these begin with a bracket, so they are tried before the messages that do
abbrev pub graded_tail : Tail
graded_tail = record { dialect = dialect.SeverityFirst; after = Row graded.graded_row; names = graded.graded_of }

abbrev pub leveled_tail : Tail
leveled_tail = record { dialect = dialect.SeverityFirst; after = Row graded.leveled_row; names = graded.leveled_of }

abbrev pub event_tail : Tail
event_tail = record { dialect = dialect.Bracketed; after = Row graded.event_row; names = graded.event_of }

abbrev pub sourced_tail : Tail
sourced_tail = record { dialect = dialect.BsdDate; after = Row graded.sourced_row; names = graded.sourced_of }

abbrev pub threaded_tail : Tail
threaded_tail = record { dialect = dialect.NoHost; after = Row graded.threaded_row; names = graded.threaded_of }

abbrev pub padded_tail : Tail
padded_tail = record { dialect = dialect.NoHost; after = Row graded.padded_row; names = graded.padded_of }

abbrev pub numbered_tail : Tail
numbered_tail = record { dialect = dialect.Bracketed; after = Row graded.numbered_row; names = graded.numbered_of }

abbrev pub counted_tail : Tail
counted_tail =
    record { dialect = dialect.Bracketed; after = beginning (Row graded.counted_row); names = graded.counted_of }

abbrev pub opened_tail : Tail
opened_tail =
    record { dialect = dialect.Bracketed; after = beginning (mark_class mark.Bracket); names = graded.opened_of }

abbrev pub graded_tails : List Tail
graded_tails = graded_tail ∷ leveled_tail ∷ event_tail ∷ sourced_tail ∷ threaded_tail ∷ padded_tail ∷ numbered_tail
    ∷ counted_tail ∷ opened_tail ∷ []

-- it is tried after the forms that have nothing of their own after the date
abbrev pub spread_tail : Tail
spread_tail = record { dialect = dialect.SpacedName; after = Row programs.spread_row; names = programs.spread_of }

abbrev pub program_tails : List Tail
program_tails =
    forwarded_tail ∷ severity_tail ∷ worded_tail ∷ access_tail ∷ hostless_tail ∷ serial_tail ∷ unified_tail
    ∷ untagged_tail ∷ []

-- ---- a message without a date

abbrev pub undated_row : Mark → List Class
undated_row m = run is_blank ∷ beginning (mark_class m) ∷ []

abbrev pub UndatedSays : (m : Mark) → Values (undated_row m) → SentValue → Type 0
UndatedSays m (_, (t, _)) s = s ≡ loose None None None None t

abbrev pub undated_form : Dialect → Mark → Form
undated_form dialect m =
    record { dialect = dialect; row = undated_row m; Means = UndatedSays m }

-- headers, and the seconds since the start
abbrev pub header_forms : List Form
header_forms = vendor_form mark.Cef ∷ vendor_form mark.Leef ∷ paired_form ∷ nil_form ∷ tag_form ∷ heroku_form
    ∷ bare_form ∷ monotonic_form ∷ []

abbrev pub undated_forms : List Form
undated_forms = undated_form dialect.Cef mark.Cef ∷ undated_form dialect.Leef mark.Leef ∷ pairs_form ∷ header_forms

-- ---- all of them

abbrev pub device_forms : List Form
device_forms = tail_forms device_tails ++ undated_forms

abbrev pub program_forms : List Form
program_forms = tail_forms program_tails ++ device_forms

abbrev pub marked_forms : List Form
marked_forms = tail_forms message_tails ++ program_forms

abbrev pub all_named : List Form
all_named = tail_forms graded_tails ++ marked_forms

-- those of them that begin with a date
abbrev pub dated_program_forms : List Form
dated_program_forms = tail_forms program_tails ++ tail_forms device_tails

abbrev pub dated_marked_forms : List Form
dated_marked_forms = tail_forms message_tails ++ dated_program_forms

abbrev pub dated_forms : List Form
dated_forms = tail_forms graded_tails ++ dated_marked_forms

abbrev pub spread_forms : List Form
spread_forms = tail_forms (spread_tail ∷ [])
