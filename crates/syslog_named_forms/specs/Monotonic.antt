-- A line of the journal with the seconds since the start in the place of a date: `journalctl -o short-monotonic`.
-- 46 is `.`, 91 `[`, 93 `]`.
use Rattle.std.specs.Prelude.{◌≡◌, ◌||◌, Bool, IsTrue, List, [], ◌∷◌, None, Some, codes, is_some}
use Rattle.syslog_text.specs.Pieces.Class.{Class, Values, Row, exactly, rest, run, some_run}
use Rattle.syslog_text.specs.Pieces.Rules.{such_that}
use Rattle.syslog_text.specs.Pieces.View.{text_eq}
use Rattle.syslog_text.specs.Text.{host, is_blank}
use Rattle.syslog_named_forms.specs.Untagged.{some_digits}
use Rattle.syslog_sent.specs.Named.{ProgramText, program}
use Rattle.syslog_sent.specs.Sent.{Form, SentValue, loose}
use Rattle.syslog_sent.specs.declared.dialect.Dialect.TheVariants.{Monotonic}

-- `[12345.678901]`, with blanks before the number or none
abbrev pub seconds_row : List Class
seconds_row = exactly (91 ∷ []) ∷ run is_blank ∷ some_digits ∷ exactly (46 ∷ []) ∷ some_digits ∷ exactly (93 ∷ []) ∷ []

-- The kernel, or a program with the id of its process. The kernel's own log has neither after its first word.
abbrev pub is_service : ProgramText → Bool
is_service p = text_eq p.name (codes "kernel") || is_some p.process

abbrev pub service : Class
service = such_that program (λ p. IsTrue (is_service p))

abbrev pub monotonic_row : List Class
monotonic_row =
    Row seconds_row ∷ some_run is_blank ∷ host ∷ some_run is_blank ∷ service ∷ run is_blank ∷ rest ∷ []

-- it says no date
abbrev pub monotonic_says : Values monotonic_row → SentValue
monotonic_says (_, (_, (hostname, (_, (p, (_, (msg, _))))))) = loose None hostname (Some p.name) p.process msg

abbrev pub monotonic_form : Form
monotonic_form = record { dialect = Monotonic; row = monotonic_row; Means = λ values s. s ≡ monotonic_says values }
