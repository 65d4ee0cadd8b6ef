-- The parts of the two headers that a line's fields are taken from, each field as its text or its number.
use Rattle.std.specs.Prelude.{◌∷◌}
use Rattle.syslog_loose.specs.Words.{ℕ, List, [], Option, Text, Class, Values, Front, Row, run, some_run, exactly}
use Rattle.syslog_loose.specs.Words.{optional, priority, is_blank, number, colon, host, word, tag_word, header_stamp}
use Rattle.syslog_loose.specs.Words.{rfc3164_stamp, Dating, spaced, seen, stamp_seen, OffsetTimestamp, rest, texted}
use Rattle.syslog_loose.specs.{Words.rfc3164_list, Words.DashRule, declared.line.Line.Line}
use Rattle.syslog_pieces.specs.declared.timestamp.clock.ClockStamp.{ClockStamp}

-- ---- of RFC 5424

-- priority, version and timestamp, with blanks between the last two
abbrev pub front_row : List Class
front_row = optional priority ∷ number 4294967295 ∷ some_run is_blank ∷ header_stamp ∷ []

-- host, app name, process id and message id, with blanks before each; the process id as its text
abbrev pub words_row : List Class
words_row =
    some_run is_blank ∷ host ∷ some_run is_blank ∷ word ∷ some_run is_blank ∷ word ∷ some_run is_blank ∷ word ∷ []

-- the structured data, read by this class, and the message part, with blanks or none before each
abbrev pub tail_row : Class → List Class
tail_row C = run is_blank ∷ C ∷ run is_blank ∷ rest ∷ []

-- what the pieces up to the timestamp mean, of this version
abbrev pub front_values : Line → ℕ → Values front_row
front_values line version = (line.priority, (version, (tt, (stamp_seen line.timestamp, tt))))

-- and those of the names
abbrev pub word_values : Line → Values words_row
word_values line = (
  tt,
  (seen line.hostname, (tt, (seen line.appname, (tt, (seen line.process, (tt, (seen line.msgid, tt))))))),
)

-- ---- of RFC 3164

-- the pieces that can fail: a priority or none, blanks or none, a timestamp
abbrev pub stamped_row : Dating → List Class
stamped_row dating = optional priority ∷ run is_blank ∷ rfc3164_stamp dating ∷ []

-- the fields of names and a colon, with blanks or none after them
abbrev pub fields_row : List Class
fields_row =
    optional (spaced host) ∷ optional (spaced tag_word) ∷ run is_blank ∷ optional (exactly colon) ∷ run is_blank ∷ []

-- the list, which may be absent, as its text, and the message part, with blanks or none before it
abbrev pub list_row : DashRule → List Class
list_row rule = texted (optional (rfc3164_list rule)) ∷ run is_blank ∷ rest ∷ []

abbrev pub stamped_values : Option ℕ → Option ClockStamp → Option ℕ × (Unit {0} × (Option OffsetTimestamp × Unit {0}))
stamped_values priority timestamp = (priority, (tt, (stamp_seen timestamp, tt)))

-- a priority, blanks and a timestamp begin the text, and this follows
abbrev pub IsAfterStamp : Dating → Text → Option ℕ → Option ClockStamp → Text → Type 0
IsAfterStamp dating text priority timestamp follows =
    Front (Row (stamped_row dating)) text follows (stamped_values priority timestamp)
