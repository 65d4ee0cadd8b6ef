-- What a program's line says, in the forms that are recognised by what is between the date and the program's name, and
-- what a message says that begins with a number. 32 is a space, 40 `(`, 41 `)`, 46 `.`, 118 `v`.
use Rattle.std.specs.Prelude.{◌⊎◌, ◌&&◌, ◌||◌, Bool, IsTrue, List, [], ◌∷◌, Option, Some, None, codes, false}
use Rattle.std.specs.Prelude.{◌++◌, MatchOption, nat_eq, not, true}
use Rattle.std.specs.Char.{is_ascii_digit, is_not_whitespace}
use Rattle.syslog_text.specs.Pieces.Class.{Text, Class, Values, Row, run, some_run, exactly, optional, rest, mapped}
use Rattle.syslog_text.specs.Pieces.Class.{spaced, texted}
use Rattle.syslog_text.specs.Pieces.Lists.{many}
use Rattle.syslog_text.specs.Pieces.Rules.{such_that}
use Rattle.syslog_text.specs.Text.{colon, host, is_blank}
use Rattle.syslog_text.specs.Text.{is_tag_char}
use Rattle.syslog_sent.specs.Date.{iso_date}
use Rattle.syslog_sent.specs.Named.{◌otherwise◌, NamedTexts, ProgramText, BeginsWith, hosted, is_letter, name}
use Rattle.syslog_sent.specs.Named.{program}
use Rattle.syslog_sent.specs.Named.{beginning, is_number, tagged, untagged}
use Rattle.syslog_sent.specs.Runs.{is_plain_char, is_word_char}
use Rattle.std.proofs.Common.{inl, inr}
use Rattle.syslog_sent.specs.Selector.{is_severity, severity, selector_row}
use Rattle.syslog_text.specs.Pieces.View.{text_eq}
use Rattle.syslog_named_forms.specs.Hosts.{host_row, process_said, process_tail, program_said, program_tail}
use Rattle.syslog_named_forms.specs.Untagged.{topic_row}

-- ---- no host: `filterlog[52211]: text`

abbrev pub hostless_row : List Class
hostless_row = program ∷ some_run is_blank ∷ rest ∷ []

abbrev pub hostless_of : Values hostless_row → NamedTexts
hostless_of (p, (_, (m, _))) = tagged None p m

abbrev pub hostless : Class
hostless = mapped (Row hostless_row) NamedTexts hostless_of

-- ---- the severity before the program: `bigip1 notice mcpd[5555]: text`, `alpine1 daemon.info udhcpc[411]: text`,
-- `aix1 auth|security:info sshd[411]: text`

-- a severity that AIX's syslogd writes by both of its names
abbrev pub is_double_severity : Text → Bool
is_double_severity t = text_eq t (codes "emerg|panic") || (text_eq t (codes "err|error")
    || (text_eq t (codes "warn|warning") || text_eq t (codes "warning|warn")))

abbrev pub aix_severity : Class
aix_severity =
    such_that (texted (some_run is_not_whitespace)) (λ t. IsTrue (is_severity t || is_double_severity t))

-- facility and severity as AIX's syslogd writes them into its files
abbrev pub aix_row : List Class
aix_row = some_run is_plain_char ∷ optional (exactly (codes "|security")) ∷ exactly colon ∷ aix_severity ∷ []

-- a severity, or a facility and a severity
abbrev pub grade : Class
grade = severity otherwise (Row selector_row otherwise Row aix_row)

abbrev pub severity_row : List Class
severity_row = host_row ++ grade ∷ some_run is_blank ∷ program_tail

abbrev pub severity_of : Values severity_row → NamedTexts
severity_of (h, (_, (_, (_, tail)))) = program_said h tail

-- ---- the serial number and the time before the program: `fb1 80DA02F9E3C1B (2026-03-02T05:33:04) https-proxy[2345]:
-- text`, or without a host

-- the time, up to the bracket that closes and the blanks after it
abbrev pub time_row : List Class
time_row = iso_date ∷ exactly (41 ∷ []) ∷ some_run is_blank ∷ []

-- WatchGuard's Fireboxes ("Configure Syslog Server Settings": the serial number and the time stamp are sent)
abbrev pub serial_row : List Class
serial_row = host_row ++ some_run is_plain_char ∷ exactly (32 ∷ []) ∷ exactly (40 ∷ []) ∷ time_row ++ program_tail

abbrev pub serial_of : Values serial_row → NamedTexts
serial_of (h, (_, (_, (_, (_, (_, (_, (_, tail)))))))) = program_said h tail

abbrev pub serial : Class
serial = mapped (Row serial_row) NamedTexts serial_of

-- the serial number, where it is the first word after the date
abbrev pub is_serial : Text → Bool
is_serial [] = true
is_serial (c ∷ cs) = is_plain_char c && is_serial cs

abbrev pub IsSerial : Option Text → Type 0
IsSerial word = MatchOption word ⊥ (λ t. IsTrue (is_serial t))

abbrev pub box_row : List Class
box_row = such_that host IsSerial ∷ some_run is_blank ∷ exactly (40 ∷ []) ∷ time_row ++ program_tail

abbrev pub box_of : Values box_row → NamedTexts
box_of (_, (_, (_, (_, (_, (_, tail)))))) = program_said None tail

abbrev pub box : Class
box = mapped (Row box_row) NamedTexts box_of

abbrev pub one_of_names : NamedTexts ⊎ NamedTexts → NamedTexts
one_of_names (inl n) = n
one_of_names (inr n) = n

abbrev pub after_serial : Class
after_serial = mapped (serial otherwise box) NamedTexts one_of_names

-- ---- model, address and version before the program: `U7PG2,788a2056a1b2,v4.0.80.10875: hostapd: text`

-- UniFi access points (Ubiquiti, "Remote syslog")
abbrev pub point_row : List Class
point_row = Row topic_row ∷ Row topic_row ∷ exactly (118 ∷ []) ∷ some_run is_tag_char ∷ []

abbrev pub access_row : List Class
access_row = texted (Row point_row) ∷ exactly colon ∷ some_run is_blank ∷ program_tail

abbrev pub access_of : Values access_row → NamedTexts
access_of (h, (_, (_, tail))) = program_said (Some h) tail

abbrev pub access_point : Class
access_point = mapped (Row access_row) NamedTexts access_of

-- ---- a name of several words: `nas1 Plex Media Server[811]: text`, `mac9 Slack Helper (Renderer)[811]: text`

-- a word in parentheses, by which macOS tells the helpers of a program apart: `(Renderer)`
abbrev pub enclosed_row : List Class
enclosed_row = exactly (40 ∷ []) ∷ some_run is_word_char ∷ exactly (41 ∷ []) ∷ []

abbrev pub later_word : Class
later_word = some_run is_word_char otherwise Row enclosed_row

-- two or more words with one space between each two, of which any but the first may be in parentheses
abbrev pub words_row : List Class
words_row = some_run is_word_char ∷ spaced later_word ∷ many (spaced later_word) ∷ []

abbrev pub words : Class
words = such_that (texted (Row words_row)) (BeginsWith is_letter)

abbrev pub worded_row : List Class
worded_row = host_row ++ words ∷ process_tail

abbrev pub worded_of : Values worded_row → NamedTexts
worded_of (h, (_, (name, tail))) = process_said h name tail

-- ---- more blanks than one before the host or the program: `nas1  smbd[811]: text`

abbrev pub spread_row : List Class
spread_row = host_row ++ name ∷ process_tail

abbrev pub spread_of : Values spread_row → NamedTexts
spread_of (h, (_, (app, tail))) = process_said h app tail

-- ---- a message that begins with a number: `h 06:33:04.123 INFO text`

-- digits, and a colon at the end: the counter of a line may be one
abbrev pub is_counter : Text → Bool
is_counter [] = false
is_counter (c ∷ []) = nat_eq c 58
is_counter (c ∷ d ∷ cs) = is_ascii_digit c && is_counter (d ∷ cs)

-- a number that is no counter
abbrev pub names_none : Text → Bool
names_none t = is_number t && not (is_counter t)

-- whether a digit begins the text, as each such word
abbrev pub opens_number : Text → Bool
opens_number [] = false
opens_number (c ∷ t) = is_ascii_digit c

abbrev pub number_word : Class
number_word = such_that (texted (some_run is_not_whitespace)) (λ t. IsTrue (names_none t))

-- it names no program
abbrev pub untagged_row : List Class
untagged_row = host_row ++ beginning number_word ∷ []

abbrev pub untagged_of : Values untagged_row → NamedTexts
untagged_of (h, (_, (m, _))) = untagged h m

-- ---- forwarded: `Message forwarded from aix01: sshd[123]: text`, or `Message forwarded from aix01: text`

abbrev pub forwarded_row : List Class
forwarded_row =
    exactly (codes "Message forwarded from ") ∷ texted (some_run is_tag_char) ∷ exactly colon ∷ run is_blank
    ∷ optional program ∷ run is_blank ∷ rest ∷ []

-- the name of a program, and the id of its process, where a program is shown
abbrev pub name_in : Option ProgramText → Option Text
name_in None = None
name_in (Some p) = Some p.name

abbrev pub process_in : Option ProgramText → Option Text
process_in None = None
process_in (Some p) = p.process

abbrev pub sent_at : Text → Option ProgramText → Text → NamedTexts
sent_at h p m = record { hostname = Some h; appname = name_in p; process = process_in p; msg = m }

abbrev pub forwarded_of : Values forwarded_row → NamedTexts
forwarded_of (_, (h, (_, (_, (p, (_, (m, _))))))) = sent_at h p m

abbrev pub passed_on : Class
passed_on = mapped (Row forwarded_row) NamedTexts forwarded_of

-- it may follow the name of the host that passes it on, which is left out
abbrev pub relayed_of : NamedTexts ⊎ (Option Text × (Unit {0} × (NamedTexts × Unit {0}))) → NamedTexts
relayed_of (inl n) = n
relayed_of (inr (_, (_, (n, _)))) = n

abbrev pub forwarded : Class
forwarded = mapped (hosted passed_on) NamedTexts relayed_of
