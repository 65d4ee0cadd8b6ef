-- The columns that macOS's `log show` writes after the date: `0x74d Default 0x0 123 0 app: text`, and those of its
-- style `compact`: `Df app[123:74d] text`. 91 is `[`, 93 `]`.
use Rattle.std.specs.Prelude.{◌&&◌, ◌⊎◌, Bool, IsTrue, false, List, [], ◌∷◌, None, Some, codes}
use Rattle.std.proofs.Common.{inl, inr}
use Rattle.syslog_text.specs.Pieces.Class.{Text, Class, Values, Row, exactly, mapped, optional, rest, run, some_run}
use Rattle.syslog_text.specs.Pieces.Class.{texted}
use Rattle.syslog_text.specs.Pieces.Rules.{such_that}
use Rattle.syslog_text.specs.Text.{colon, is_blank}
use Rattle.syslog_sent.specs.Named.{◌otherwise◌, NamedTexts, is_letter, name, tagged}
use Rattle.syslog_sent.specs.Runs.{is_plain_char}
use Rattle.syslog_sent.specs.Zone.{is_capital}
use Rattle.syslog_named_forms.specs.Programs.{words}
use Rattle.syslog_named_forms.specs.Untagged.{some_digits}

-- the thread, the type and the activity, with blanks after each
abbrev pub thread_row : List Class
thread_row =
    exactly (codes "0x") ∷ some_run is_plain_char ∷ some_run is_blank ∷ some_run is_plain_char ∷ some_run is_blank
    ∷ exactly (codes "0x") ∷ some_run is_plain_char ∷ some_run is_blank ∷ []

-- how many days the entry is kept, and blanks
abbrev pub kept_row : List Class
kept_row = some_digits ∷ some_run is_blank ∷ []

abbrev pub either_name : Text ⊎ Text → Text
either_name (inl t) = t
either_name (inr t) = t

-- a program's name, of several words or of one
abbrev pub entry_name : Class
entry_name = mapped (words otherwise name) Text either_name

-- these, the process id, how many days the entry is kept, which macOS 10.12 does not write, the program, and the
-- message
abbrev pub log_row : List Class
log_row = Row thread_row ∷ texted some_digits ∷ some_run is_blank ∷ optional (Row kept_row) ∷ entry_name
    ∷ exactly colon ∷ run is_blank ∷ rest ∷ []

-- the log is of one machine, which it does not name
abbrev pub log_of : Values log_row → NamedTexts
log_of (_, (id, (_, (_, (app, (_, (_, (msg, _)))))))) = tagged None (record { name = app; process = Some id }) msg

abbrev pub unified : Class
unified = mapped (Row log_row) NamedTexts log_of

-- ---- compact

-- the type of an entry: a capital letter, or it and one letter more
abbrev pub is_kind : Text → Bool
is_kind [] = false
is_kind (c ∷ []) = is_capital c
is_kind (c ∷ d ∷ []) = is_capital c && is_letter d
is_kind (c ∷ d ∷ e ∷ more) = false

abbrev pub kind : Class
kind = such_that (texted (some_run is_plain_char)) (λ t. IsTrue (is_kind t))

-- the thread, and the bracket after it
abbrev pub close_row : List Class
close_row = exactly colon ∷ some_run is_plain_char ∷ exactly (93 ∷ []) ∷ []

abbrev pub compact_row : List Class
compact_row = kind ∷ some_run is_blank ∷ entry_name ∷ exactly (91 ∷ []) ∷ texted some_digits ∷ Row close_row
    ∷ some_run is_blank ∷ rest ∷ []

abbrev pub compact_of : Values compact_row → NamedTexts
compact_of (_, (_, (app, (_, (id, (_, (_, (msg, _)))))))) = tagged None (record { name = app; process = Some id }) msg

abbrev pub compact : Class
compact = mapped (Row compact_row) NamedTexts compact_of
