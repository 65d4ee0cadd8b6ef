-- The front of a printed line: the priority, the version of RFC 5424, a space and the timestamp.
use Rattle.std.specs.Prelude.{ℕ, List, [], ◌∷◌, ◌++◌, Option, Some, None, take}
use Rattle.std.specs.Fmt.{decimal}
use Rattle.syslog_pieces.specs.Pri.{priority_text}
use Rattle.syslog_pieces.specs.Timestamp.{clock_value}
use Rattle.syslog_pieces.specs.Timestamp.Printed.{printed_stamp}
use Rattle.syslog_pieces.specs.declared.front.Ascii.{Ascii}
use Rattle.syslog_pieces.specs.declared.timestamp.clock.ClockStamp.{ClockStamp}

-- the bytes of a short text of ASCII
abbrev pub ascii_bytes : Ascii → List ℕ
ascii_bytes a = take a.length a.bytes

-- a timestamp as it prints, or `-`
abbrev pub clock_text : Option ClockStamp → List ℕ
clock_text None = 45 ∷ []
clock_text (Some c) = printed_stamp (clock_value c).instant.nanosecond c.offset.seconds

-- a version of RFC 5424, or nothing
abbrev pub version_text : Option ℕ → List ℕ
version_text None = []
version_text (Some n) = decimal n

-- `<priority>version timestamp`, without the version for RFC 3164
abbrev pub front_text : ℕ → Option ℕ → Option ClockStamp → List ℕ
front_text priority version timestamp =
    priority_text priority ++ (version_text version ++ (32 ∷ clock_text timestamp))
