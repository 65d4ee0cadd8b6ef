-- Messages that have no program's name before them: they are recognised by what they begin with.
--
-- 32 is a space, 34 `"`, 44 `,`, 45 `-`, 46 `.`, 47 `/`, 58 `:`, 61 `=`, 84 `T`, 91 `[`, 123 `{`, 124 `|`, 125 `}`.
use Rattle.std.proofs.Common.{inl, inr}
use Rattle.std.specs.Prelude.{◌≡◌, ◌⊎◌, ◌||◌, ◌&&◌, ℕ, bit_and, nat_eq, nat_le, not, Option, Bool, true, false}
use Rattle.std.specs.Prelude.{IsTrue, List, [], ◌∷◌, MatchOption, None, Some, codes}
use Rattle.std.specs.Char.{is_ascii_digit, is_not_whitespace}
use Rattle.syslog_text.specs.Pieces.Class.{Text, Class, NoFront, Row, run, some_run, exactly, optional, after, mapped}
use Rattle.syslog_text.specs.Pieces.Class.{texted}
use Rattle.syslog_text.specs.Pieces.Rules.{such_that}
use Rattle.syslog_text.specs.Pieces.View.{shown, text_eq}
use Rattle.syslog_text.specs.Text.{is_blank}
use Rattle.syslog_pieces.specs.Timestamp.Rfc3339.{pair, year}
use Rattle.syslog_sent.specs.Date.{unless}
use Rattle.syslog_sent.specs.Named.{◌otherwise◌, NamedTexts, beginning, hosted, untagged}
use Rattle.syslog_sent.specs.Runs.{is_plain_char, is_word_char}
use Rattle.syslog_named_forms.specs.declared.untagged.Mark.{Mark}
use Rattle.syslog_named_forms.specs.declared.hosts.AfterHost.{AfterHost}
use Rattle.syslog_named_forms.specs.declared.marks.MessageMarks.{MessageMarks}
use Rattle.syslog_named_forms.specs.declared.untagged.Mark.TheVariants.{Cef, Leef, Repeated, PaloAlto, Pair, Json}
use Rattle.syslog_named_forms.specs.declared.untagged.Mark.TheVariants.{Idrac}
use Rattle.syslog_named_forms.specs.declared.untagged.Mark.TheVariants.{Level}
use Rattle.syslog_named_forms.specs.declared.untagged.Mark.TheVariants.{Bracket, Dated, Topics}
use Rattle.syslog_sent.specs.declared.dialect.Dialect.{Dialect}
use Rattle.syslog_sent.specs.declared.dialect.Dialect.TheVariants as dialect

abbrev pub some_digits : Class
some_digits = some_run is_ascii_digit

-- `CEF:0|`
abbrev pub cef_row : List Class
cef_row = exactly (codes "CEF:") ∷ run is_blank ∷ some_digits ∷ exactly (124 ∷ []) ∷ []

-- `LEEF:1.0|`
abbrev pub leef_row : List Class
leef_row =
    exactly (codes "LEEF:") ∷ run is_blank ∷ some_digits ∷ exactly (46 ∷ []) ∷ some_digits ∷ exactly (124 ∷ []) ∷ []

-- `last message repeated 3 times`, `message repeated 2 times: [ .. ]`
abbrev pub repeated_tail : List Class
repeated_tail = exactly (codes "message repeated ") ∷ some_digits ∷ exactly (codes " time") ∷ []

abbrev pub repeated_row : List Class
repeated_row = optional (exactly (codes "last ")) ∷ repeated_tail

-- `--- last message repeated 3 times ---` (macOS), `above message repeats 2 times` (HP-UX)
abbrev pub repeats : Class
repeats = exactly (codes "--- last message repeated ") otherwise exactly (codes "above message repeats ")

abbrev pub repeats_row : List Class
repeats_row = repeats ∷ some_digits ∷ exactly (codes " time") ∷ []

-- `-- MARK --`, by which a daemon says that it is running (sysklogd's `-m`, the module immark of rsyslog)
abbrev pub here : Class
here = exactly (codes "-- MARK --")

-- `1,2026/03/02 06:33:04,`
abbrev pub palo_alto_row : List Class
palo_alto_row =
    some_digits ∷ exactly (44 ∷ []) ∷ year ∷ after 47 (pair 100) ∷ after 47 (pair 100) ∷ exactly (32 ∷ []) ∷ pair 100
    ∷ after 58 (pair 100) ∷ after 58 (pair 100) ∷ exactly (44 ∷ []) ∷ []

-- `2026-03-02`, `2026/03/02`
abbrev pub dashed_row : List Class
dashed_row = year ∷ after 45 (pair 100) ∷ after 45 (pair 100) ∷ []

abbrev pub slashed_row : List Class
slashed_row = year ∷ after 47 (pair 100) ∷ after 47 (pair 100) ∷ []

abbrev pub day : Class
day = Row dashed_row otherwise Row slashed_row

abbrev pub day_end : Class
day_end = exactly (84 ∷ []) otherwise exactly (32 ∷ [])

-- `2026-03-02 06:33`, `2026/03/02T06:33`
abbrev pub clock_row : List Class
clock_row = day ∷ day_end ∷ pair 100 ∷ after 58 (pair 100) ∷ []

-- `key=`
abbrev pub pair_row : List Class
pair_row = some_run is_word_char ∷ exactly (61 ∷ []) ∷ []

-- the levels of log4j, and those that Python's logging and java.util.logging have besides
abbrev pub is_log4j_level : Text → Bool
is_log4j_level t = text_eq t (codes "TRACE") || (text_eq t (codes "DEBUG") || (text_eq t (codes "INFO")
    || (text_eq t (codes "WARN") || (text_eq t (codes "ERROR") || text_eq t (codes "FATAL")))))

abbrev pub is_level : Text → Bool
is_level t = is_log4j_level t || (text_eq t (codes "WARNING") || (text_eq t (codes "CRITICAL")
    || (text_eq t (codes "SEVERE") || text_eq t (codes "NOTICE"))))

-- a topic of RouterOS, and a comma
abbrev pub topic_row : List Class
topic_row = some_run is_plain_char ∷ exactly (44 ∷ []) ∷ []

-- the topics that each message has one of (RouterOS, Log: topics)
abbrev pub is_main_topic : Text → Bool
is_main_topic t = text_eq t (codes "critical") || (text_eq t (codes "error") || (text_eq t (codes "warning")
    || (text_eq t (codes "info") || (text_eq t (codes "debug") || text_eq t (codes "packet")))))

abbrev pub main_topic : Class
main_topic = such_that (texted (some_run is_plain_char)) (λ t. IsTrue (is_main_topic t))

abbrev pub later_topic_row : List Class
later_topic_row = Row topic_row ∷ main_topic ∷ []

-- `system,info`, `pptp,ppp,info`: one of them is the second or the third
abbrev pub topics_row : List Class
topics_row = Row topic_row ∷ (main_topic otherwise Row later_topic_row) ∷ []

-- `[12]:`, the process of a program that is not named
abbrev pub number_row : List Class
number_row = exactly (91 ∷ []) ∷ some_digits ∷ exactly (codes "]:") ∷ []

-- a bracket that begins no such number, a second priority's `<`, or a quote
abbrev pub angle : Class
angle = exactly (60 ∷ []) otherwise exactly (34 ∷ [])

abbrev pub open_bracket : Class
open_bracket = unless (Row number_row) (exactly (91 ∷ [])) otherwise angle

-- `Mar  2 06:33`, as a line that is passed on begins
abbrev pub is_month : Text → Bool
is_month t = text_eq t (codes "Jan") || (text_eq t (codes "Feb") || (text_eq t (codes "Mar") || (text_eq t
    (codes "Apr") || (text_eq t (codes "May") || (text_eq t (codes "Jun") || (text_eq t (codes "Jul") || (text_eq t
    (codes "Aug") || (text_eq t (codes "Sep") || (text_eq t (codes "Oct") || (text_eq t (codes "Nov") || (text_eq t
    (codes "Dec"))))))))))))

abbrev pub month_word : Class
month_word = such_that (texted (some_run is_plain_char)) (λ t. IsTrue (is_month t))

abbrev pub month_row : List Class
month_row = month_word ∷ some_run is_blank ∷ some_digits ∷ some_run is_blank ∷ pair 100 ∷ after 58 (pair 100) ∷ []

-- `{"`, `{ "`, `{}`: an object of JSON, of which a name or the end comes first, after blanks or none
abbrev pub name_or_end : Class
name_or_end = exactly (34 ∷ []) otherwise exactly (125 ∷ [])

abbrev pub object_row : List Class
object_row = exactly (123 ∷ []) ∷ run is_blank ∷ name_or_end ∷ []

-- what begins such a message
abbrev pub mark_class : Mark → Class
mark_class Cef = Row cef_row
mark_class Leef = Row leef_row
mark_class Repeated = Row repeated_row otherwise (Row repeats_row otherwise here)
mark_class PaloAlto = Row palo_alto_row
mark_class Pair = Row pair_row
mark_class Json = Row object_row
mark_class Idrac = exactly (codes "Severity: ")
mark_class Level = such_that (texted (some_run is_not_whitespace)) (λ t. IsTrue (is_level t))
mark_class Topics = Row topics_row
mark_class Bracket = open_bracket
mark_class Dated = Row clock_row otherwise Row month_row

-- the marks, in the order in which they are tried
abbrev pub marks : List Mark
marks = Repeated ∷ Cef ∷ Leef ∷ PaloAlto ∷ Pair ∷ Json ∷ Idrac ∷ Level ∷ Topics ∷ Bracket ∷ Dated ∷ []

-- the dialect of the messages that the mark begins
abbrev pub dialect_of : Mark → Dialect
dialect_of Cef = dialect.Cef
dialect_of Leef = dialect.Leef
dialect_of Repeated = dialect.Repeated
dialect_of PaloAlto = dialect.PaloAlto
dialect_of Pair = dialect.KeyValue
dialect_of Json = dialect.Json
dialect_of Idrac = dialect.Idrac
dialect_of Level = dialect.Log4j
dialect_of Topics = dialect.MikroTik
dialect_of Bracket = dialect.Bracketed
dialect_of Dated = dialect.DatedMessage

-- the character may begin such a message
abbrev pub begins : Mark → ℕ → Bool
begins Cef c = nat_eq c 67
begins Leef c = nat_eq c 76
begins Repeated c = nat_eq c 108 || (nat_eq c 109 || (nat_eq c 45 || nat_eq c 97))
begins PaloAlto c = is_ascii_digit c
begins Pair c = is_word_char c
begins Json c = nat_eq c 123
begins Idrac c = nat_eq c 83
begins Level c = nat_le 67 c && nat_le c 87
begins Topics c = is_plain_char c
begins Bracket c = nat_eq c 91 || (nat_eq c 60 || nat_eq c 34)
begins Dated c = is_ascii_digit c || (nat_le 65 c && nat_le c 83)

-- the bit of each mark in a set of them
abbrev pub bit_of : Mark → ℕ
bit_of Cef = 1
bit_of Leef = 2
bit_of Repeated = 4
bit_of PaloAlto = 8
bit_of Pair = 16
bit_of Json = 32
bit_of Idrac = 64
bit_of Level = 128
bit_of Topics = 256
bit_of Bracket = 512
bit_of Dated = 1024

-- the set has the mark
abbrev pub holds : ℕ → Mark → Bool
holds bits m = not (nat_eq (bit_and bits (bit_of m)) 0)

-- a key, a number or a topic
abbrev pub is_listed : Mark → Bool
is_listed PaloAlto = true
is_listed Pair = true
is_listed Topics = true
is_listed _ = false

-- the character may begin such a message, which none of these three begins
abbrev pub begins_other : Mark → ℕ → Bool
begins_other m c = not (is_listed m) && begins m c

-- `=` or a comma, which a key, a number or a topic ends at
abbrev pub ends_list : ℕ → Bool
ends_list c = nat_eq c 61 || nat_eq c 44

-- no mark that the set lacks begins the text
abbrev pub AreAll : ℕ → Text → Type 0
AreAll bits t = (m : Mark) → holds bits m ≡ false → NoFront (mark_class m) t

-- the marks that may begin a text, and those that may begin what `past_host` left of it
abbrev pub AreMarks : MessageMarks → Text → Option AfterHost → Type 0
AreMarks marks text after_host = AreAll marks.own.bits text
    × MatchOption after_host ((m : Mark) → holds marks.later.bits m ≡ false)
    (λ h. AreAll marks.later.bits (shown h.text))

-- such a message, or a host before it
abbrev pub marked : Mark → Class
marked m = hosted (beginning (mark_class m))

abbrev pub marked_of : Text ⊎ (Option Text × (Unit {0} × (Text × Unit {0}))) → NamedTexts
marked_of (inl t) = untagged None t
marked_of (inr (h, (_, (t, _)))) = untagged h t

abbrev pub message : Mark → Class
message m = mapped (marked m) NamedTexts marked_of

-- whether a bracket begins the text
abbrev pub opens_square : Text → Bool
opens_square [] = false
opens_square (c ∷ t) = nat_eq c 91

-- whether one begins what `past_host` left of a text
abbrev pub opens_bracket : Option AfterHost → Bool
opens_bracket None = false
opens_bracket (Some h) = opens_square (shown h.text)
