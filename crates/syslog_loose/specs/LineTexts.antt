-- Which pieces of the trimmed text the fields of a line are. So each text is there as it came, and not only what it
-- means: a process id as its text, a priority as its number, a list as its whole text.
use Rattle.std.specs.{Option.option_flatten, Prelude.◌≡◌, Prelude.◌↔◌}
use Rattle.syslog_loose.specs.Words.{ℕ, [], IsSome, IsTrue, Option, Some, Text, Division, Front, Row, texted, seen}
use Rattle.syslog_loose.specs.Words.{shown, list_text, forgiving, trimmed, Dating}
use Rattle.syslog_loose.specs.{Line.line_value, Printed.rest_text, Reading.dash_rule, Rows.words_row}
use Rattle.syslog_loose.specs.{Rfc3164.HasProcess, Rfc3164.IsRead3164, Rfc5424.IsRead5424, declared.line.Line.Line}
use Rattle.syslog_loose.specs.Rows.{IsAfterStamp, fields_row, front_row, front_values, list_row, tail_row, word_values}

-- The text is read as the line. Priority, version and timestamp begin it, then come the names, and then the list and
-- the message part, with blanks or none before each. The line says whether all after its timestamp is as it prints.
pub record IsLine5424 (text : Text) (line : Line) : Type 0 where
  pub read : IsRead5424 text (line_value line)
  pub version : ℕ
  pub has_version : line.version ≡ Some version
  pub front : Front (Row front_row) (trimmed text) (shown line.rest) (front_values line version)
  pub after : Text
  pub names : Front (Row words_row) (shown line.rest) after (word_values line)
  pub parts : Division (tail_row (texted forgiving)) after (tt, (list_text line.list, (tt, (shown line.msg, tt))))
  pub is_printed : IsTrue line.is_printed ↔ (shown line.rest ≡ rest_text (line_value line))

-- The text is read as the line. Priority and timestamp begin it, then come the two fields of names, one of which has
-- the text of the process, and a colon. Then come the list, which may be absent, and the message part. The line says
-- whether all after its timestamp is in printed form, with a host field and a program, and without a list.
pub record IsLine3164 (dating : Dating) (text : Text) (line : Line) : Type 0 where
  pub read : IsRead3164 dash_rule dating text (line_value line)
  pub front : IsAfterStamp dating (trimmed text) line.priority line.timestamp (shown line.rest)
  pub after : Text
  pub host : Option (Option Text)
  pub tag : Option (Option Text)
  pub colon : Option (Unit {0})
  pub names : Front (Row fields_row) (shown line.rest) after (host, (tag, (tt, (colon, (tt, tt)))))
  pub process : HasProcess host tag (seen line.process)
  pub parts : Division (list_row dash_rule) after (list_text line.list, (tt, (shown line.msg, tt)))
  pub is_printed : IsTrue line.is_printed ↔ (IsSome host × IsSome (option_flatten tag) × (list_text line.list ≡ [])
      × (shown line.rest ≡ rest_text (line_value line)))
