-- What is in angles or in brackets before the message: facility and severity, an event, or where a line is from. 46 is
-- `.`, 60 `<`, 62 `>`, 91 `[`, 93 `]`.
use Rattle.std.specs.Prelude.{List, [], ◌∷◌, ◌++◌, None, Some, codes}
use Rattle.syslog_text.specs.Pieces.Class.{Text, Class, Values, Row, exactly, mapped, rest, run, some_run, texted}
use Rattle.syslog_text.specs.Text.{colon, is_blank}
use Rattle.std.specs.Char.{is_ascii_digit}
use Rattle.syslog_sent.specs.Named.{◌otherwise◌, NamedTexts, beginning, name, tagged, untagged}
use Rattle.syslog_sent.specs.Runs.{is_plain_char, is_word_char}
use Rattle.syslog_named_forms.specs.Hosts.{host_row, program_said, program_tail}
use Rattle.syslog_named_forms.specs.Untagged.{mark_class}
use Rattle.syslog_named_forms.specs.declared.untagged.Mark.TheVariants.{Bracket, Level}

-- ---- `<auth.info> gate sshd[811]: text`, `<4.6> gate sshd[811]: text`

-- FreeBSD's syslogd with `-v`, and Isilon's OneFS
abbrev pub grade_row : List Class
grade_row = exactly (60 ∷ []) ∷ some_run is_plain_char ∷ exactly (46 ∷ []) ∷ some_run is_plain_char ∷ exactly (62 ∷ [])
    ∷ []

abbrev pub graded_row : List Class
graded_row = Row grade_row ∷ some_run is_blank ∷ host_row ++ program_tail

abbrev pub graded_of : Values graded_row → NamedTexts
graded_of (_, (_, (h, (_, tail)))) = program_said h tail

abbrev pub graded : Class
graded = mapped (Row graded_row) NamedTexts graded_of

-- ---- `axis-accc8e1a2b3c [ INFO    ] systemd[1]: text`

-- Axis cameras
abbrev pub level_row : List Class
level_row = exactly (codes "[ ") ∷ some_run is_plain_char ∷ run is_blank ∷ exactly (93 ∷ []) ∷ []

abbrev pub leveled_row : List Class
leveled_row = host_row ++ Row level_row ∷ some_run is_blank ∷ program_tail

abbrev pub leveled_of : Values leveled_row → NamedTexts
leveled_of (h, (_, (_, (_, tail)))) = program_said h tail

-- ---- `[cluster1-01:wafl.vol.autoSize.done:notice]: text`

-- NetApp's ONTAP: the node, the event, and the severity
abbrev pub event_end_row : List Class
event_end_row = exactly colon ∷ some_run is_plain_char ∷ exactly (codes "]:") ∷ []

abbrev pub event_row : List Class
event_row = exactly (91 ∷ []) ∷ texted (some_run is_plain_char) ∷ exactly colon ∷ run is_blank
    ∷ texted (some_run is_word_char) ∷ Row event_end_row ∷ run is_blank ∷ rest ∷ []

abbrev pub event_of : Values event_row → NamedTexts
event_of (_, (node, (_, (_, (event, (_, (_, (m, _)))))))) =
    tagged (Some node) (record { name = event; process = None }) m

abbrev pub event : Class
event = mapped (Row event_row) NamedTexts event_of

-- ---- `192.0.2.2 <192.0.2.2 02:00:00:00:00:01> stm[2112]: text`

-- Aruba Instant: the address of the access point twice, and that of its hardware
abbrev pub hardware_row : List Class
hardware_row = some_run is_plain_char ∷ exactly colon ∷ some_run is_plain_char ∷ exactly colon ∷ some_run is_plain_char
    ∷ exactly colon ∷ some_run is_plain_char ∷ exactly colon ∷ some_run is_plain_char ∷ exactly colon
    ∷ some_run is_plain_char ∷ []

abbrev pub source_row : List Class
source_row = exactly (60 ∷ []) ∷ some_run is_word_char ∷ some_run is_blank ∷ Row hardware_row ∷ exactly (62 ∷ []) ∷ []

abbrev pub sourced_row : List Class
sourced_row = host_row ++ Row source_row ∷ some_run is_blank ∷ program_tail

abbrev pub sourced_of : Values sourced_row → NamedTexts
sourced_of (h, (_, (_, (_, tail)))) = program_said h tail

-- ---- `sua [768:871]: text`

-- phones of Yealink: process and thread after a blank
abbrev pub threads_row : List Class
threads_row = some_run is_ascii_digit ∷ exactly colon ∷ some_run is_ascii_digit ∷ []

abbrev pub threaded_row : List Class
threaded_row = name ∷ some_run is_blank ∷ exactly (91 ∷ []) ∷ texted (Row threads_row) ∷ exactly (codes "]:")
    ∷ run is_blank ∷ rest ∷ []

abbrev pub threaded_of : Values threaded_row → NamedTexts
threaded_of (app, (_, (_, (id, (_, (_, (m, _))))))) = tagged None (record { name = app; process = Some id }) m

abbrev pub threaded : Class
threaded = mapped (Row threaded_row) NamedTexts threaded_of

-- ---- `fail2ban.actions        [2188]: text`

-- fail2ban: its name is filled up with spaces, here two or more, since one is after a host
abbrev pub padded_row : List Class
padded_row = name ∷ exactly (32 ∷ 32 ∷ []) ∷ run is_blank ∷ exactly (91 ∷ []) ∷ texted (some_run is_ascii_digit)
    ∷ exactly (codes "]:") ∷ run is_blank ∷ rest ∷ []

abbrev pub padded_of : Values padded_row → NamedTexts
padded_of (app, (_, (_, (_, (id, (_, (_, (m, _)))))))) = tagged None (record { name = app; process = Some id }) m

abbrev pub padded : Class
padded = mapped (Row padded_row) NamedTexts padded_of

-- ---- `[1133] LOG:  text`

-- PostgreSQL: the process, by the prefix of its lines that is set unless another is
abbrev pub numbered_row : List Class
numbered_row = exactly (91 ∷ []) ∷ texted (some_run is_ascii_digit) ∷ exactly (93 ∷ []) ∷ some_run is_blank ∷ rest ∷ []

abbrev pub numbered_of : Values numbered_row → NamedTexts
numbered_of (_, (id, (_, (_, (m, _))))) = record { hostname = None; appname = None; process = Some id; msg = m }

abbrev pub numbered : Class
numbered = mapped (Row numbered_row) NamedTexts numbered_of

-- ---- `0 [System] [MY-010931] [Server] text`

-- MySQL, MariaDB and OpenStack: the number of a thread or a process begins the message, and is no host
abbrev pub bracket_or_level : Class
bracket_or_level = exactly (91 ∷ []) otherwise mark_class Level

abbrev pub counted_row : List Class
counted_row = some_run is_ascii_digit ∷ some_run is_blank ∷ bracket_or_level ∷ []

abbrev pub counted_of : Text → NamedTexts
counted_of t = untagged None t

abbrev pub counted : Class
counted = mapped (beginning (Row counted_row)) NamedTexts counted_of

-- ---- `[main] INFO  com.example.App - text`

-- Logback and log4j: what a bracket, `<` or a quote begins at once after the date is a message, and shows no host
abbrev pub opened_of : Text → NamedTexts
opened_of t = untagged None t

abbrev pub opened : Class
opened = mapped (beginning (mark_class Bracket)) NamedTexts opened_of
