-- A parsed line, as the message that it means, and what is printed of it after the timestamp.
use Rattle.std.specs.Prelude.{◌≡◌}
use Rattle.syslog_loose.specs.Words.{ℕ, IsTrue, Option, Some, None, IfSome, option_map, IsUtf8, seen, shown}
use Rattle.syslog_loose.specs.Words.{named_process, list_elements, stamp_seen, IsCanonicalStamp}
use Rattle.syslog_loose.specs.{Printed.rest_text, Quirks.HasNoQuirk, Reading.dash_rule, declared.line.Line.Line}
use Rattle.syslog_loose.specs.{Message.MessageValue, Message.message_of_parts, declared.message.Protocol.Protocol}
use Rattle.syslog_loose.specs.declared.message.Protocol.TheVariants.{RFC3164, RFC5424}

-- RFC 5424 has a version, and RFC 3164 none
abbrev pub protocol_of : Option ℕ → Protocol
protocol_of None = RFC3164
protocol_of (Some version) = RFC5424 version

-- the message that the line means
abbrev pub line_value : Line → MessageValue
line_value line =
    message_of_parts (protocol_of line.version) line.priority (stamp_seen line.timestamp) (seen line.hostname)
    (seen line.appname) (option_map named_process (seen line.process)) (seen line.msgid) (list_elements line.list)
    (shown line.msg)

-- Where the line says so, all after its timestamp is already in printed form; and then what RFC 3164 read of it has no
-- quirk but perhaps its timestamp.
pub record KnowsForm (line : Line) : Type 0 where
  pub utf8 : IsUtf8 line.rest.now
  pub prints : IsTrue line.is_printed → shown line.rest ≡ rest_text (line_value line)
  pub quiet : IsTrue line.is_printed → line.version ≡ None → IfSome (stamp_seen line.timestamp) IsCanonicalStamp
      → HasNoQuirk dash_rule (line_value line)
