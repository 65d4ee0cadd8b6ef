-- What becomes of each character of a line in its object: it is found there, or it is left out as is said here.
use Rattle.std.specs.Prelude.{◌≡◌, ◌⊎◌, ◌<◌, ◌≤◌, ◌+◌, ◌*◌, ◌%◌, ℕ, List, [], ◌∷◌, length, None, Some, codes}
use Rattle.std.specs.Char.{is_ascii_digit, is_not_whitespace}
use Rattle.std.specs.Str.Parse.{digits_value}
use Rattle.json.specs.Find.{get}
use Rattle.json.specs.Json.{Json, string}
use Rattle.syslog_text.specs.Pieces.Class.{Text, Each}
use Rattle.syslog_pieces.specs.ProcId.{NamesProcess, procid_text}
use Rattle.syslog_text.specs.Text.{colon}
use Rattle.syslog_pieces.specs.Timestamp.{IsStampText}
use Rattle.syslog_pieces.specs.Timestamp.Canonical.{IsCanonicalStamp}
use Rattle.syslog_pieces.specs.Timestamp.MonthDate.{month_date}
use Rattle.syslog_pieces.specs.Timestamp.Printed.{printed_stamp}
use Rattle.syslog_pieces.specs.Timestamp.Zone.{Dating, IsMonthStamp}
use Rattle.syslog_pieces.specs.declared.procid.ProcId.{ProcId}
use Rattle.syslog_pieces.specs.declared.timestamp.OffsetTimestamp.{OffsetTimestamp}
use Rattle.syslog_pieces.specs.declared.timestamp.month_date.MonthDate.{MonthDate}
use Rattle.syslog_object.specs.Object.{number_json, text_json}
use Rattle.syslog_kept.specs.Elements.{structured_data}
use Rattle.syslog_kept.specs.Part.{AreParts, Part, blanks, dash_at, either, maybe, name_at, text_at, this, white_space}

-- ---- the priority and the version

-- digits that write this number, with leading zeros or without
abbrev pub digits_of : ℕ → Part
digits_of n = λ p. (0 < length p) × Each is_ascii_digit p × (n ≡ digits_value 10 p)

-- The number of a priority: the facility's, times 8, plus the severity's. From 192 on the object has no facility, and
-- what is found is the severity, which is the remainder by 8.
abbrev pub IsPriorityOf : Json → ℕ → Type 0
IsPriorityOf o n =
    ((facility : ℕ) × (severity : ℕ) × (get (codes "facility_code") o ≡ Some (number_json facility))
    × (get (codes "severity_code") o ≡ Some (number_json severity)) × (n ≡ facility * 8 + severity))
    ⊎ ((192 ≤ n) × (get (codes "facility_code") o ≡ None)
    × (get (codes "severity_code") o ≡ Some (number_json (n % 8))))

-- `<`, such a number, `>`
abbrev pub priority : Json → Part
priority o =
    AreParts (this (60 ∷ []) ∷ (λ p. (n : ℕ) × digits_of n p × IsPriorityOf o n) ∷ this (62 ∷ []) ∷ [])

-- the version of RFC 5424
abbrev pub version : Json → Part
version o = λ p. (n : ℕ) × digits_of n p × (get (codes "version") o ≡ Some (number_json n))

-- ---- the timestamp

-- The object has the timestamp: its text is one of the same instant and offset, where RFC 3339 has such a text. That is
-- for a year from 0 to 9999 and an offset of whole minutes.
abbrev pub HasStamp : Json → OffsetTimestamp → Type 0
HasStamp o s = (t : Text) × (get (codes "timestamp") o ≡ Some (string t))
    × (t ≡ printed_stamp s.instant.nanosecond s.offset.seconds) × (IsCanonicalStamp s → IsStampText t s)

-- an RFC 3339 text of the timestamp, which the object has
abbrev pub rfc3339 : Json → Part
rfc3339 o = λ p. (s : OffsetTimestamp) × IsStampText p s × HasStamp o s

-- the date of RFC 3164 of the timestamp, which the object has
abbrev pub dated : Dating → Json → Part
dated dating o = λ p. (q : Text) × (date : MonthDate) × (s : OffsetTimestamp) × month_date.Is p q date
    × IsMonthStamp dating date s × HasStamp o s

-- ---- the names

-- a process id, which the object has: its text, or the number that it writes, in decimal
abbrev pub process : Json → Part
process o = λ p. (id : ProcId Text) × NamesProcess p id × (get (codes "procid") o ≡ Some (text_json (procid_text id)))

-- the app name, alone or with the process id between brackets
abbrev pub program : Json → Part
program o = either (text_at o (codes "appname"))
    (AreParts (text_at o (codes "appname") ∷ this (91 ∷ []) ∷ process o ∷ this (93 ∷ []) ∷ []))

-- a space, and then the part
abbrev pub spaced : Part → Part
spaced P = AreParts (this (32 ∷ []) ∷ P ∷ [])

-- no white space
abbrev pub visible : Part
visible = λ p. Each is_not_whitespace p

-- The host and the program. Before the tag `-`, which is no program, a host is lost: no key of the object has it.
abbrev pub host_and_program : Json → Part
host_and_program o = either
    (AreParts (maybe (spaced (name_at o (codes "hostname"))) ∷ maybe (spaced (program o)) ∷ []))
    (AreParts (maybe (spaced visible) ∷ spaced (dash_at o (codes "appname")) ∷ []))

-- ---- lines

-- a line of RFC 5424
abbrev pub rfc5424 : Json → List Part
rfc5424 o =
    white_space ∷ maybe (priority o) ∷ version o ∷ blanks ∷ either (dash_at o (codes "timestamp")) (rfc3339 o)
    ∷ blanks ∷ name_at o (codes "hostname") ∷ blanks ∷ name_at o (codes "appname")
    ∷ blanks ∷ either (dash_at o (codes "procid")) (process o) ∷ blanks ∷ name_at o (codes "msgid")
    ∷ blanks ∷ structured_data o ∷ blanks ∷ text_at o (codes "message") ∷ white_space ∷ []

-- a line of RFC 3164
abbrev pub rfc3164 : Dating → Json → List Part
rfc3164 dating o =
    white_space ∷ maybe (priority o) ∷ blanks
    ∷ either (dash_at o (codes "timestamp")) (either (rfc3339 o) (dated dating o)) ∷ host_and_program o
    ∷ blanks ∷ maybe (this colon) ∷ blanks ∷ structured_data o ∷ blanks ∷ text_at o (codes "message")
    ∷ white_space ∷ []

-- the text is parts that the object has, and what is left out between and around them
abbrev pub AccountsFor : Dating → Json → Text → Type 0
AccountsFor dating o text =
    ((get (codes "protocol") o ≡ Some (string (codes "RFC5424"))) × AreParts (rfc5424 o) text)
    ⊎ ((get (codes "protocol") o ≡ Some (string (codes "RFC3164"))) × AreParts (rfc3164 dating o) text)
