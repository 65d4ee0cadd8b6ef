-- The header of RFC 5424 (section 6), as sixteen pieces of the trimmed text, and the message that they mean.
use Rattle.std.specs.Prelude.{◌≡◌, ◌∷◌}
use Rattle.syslog_loose.specs.Words.{List, [], Text, Class, Values, Division, run, some_run, rest, optional, priority}
use Rattle.syslog_loose.specs.Words.{process_word, forgiving, trimmed, is_blank, number, host, word, header_stamp}
use Rattle.syslog_loose.specs.{Words.AreInPieces, declared.message.Protocol.TheVariants.RFC5424}
use Rattle.syslog_loose.specs.Message.{MessageValue, message_of_parts, message_texts}

-- priority, version, timestamp, host, app name, process id, message id, elements, message, with blanks between two
abbrev pub rfc5424_row : List Class
rfc5424_row =
    optional priority ∷ number 4294967295 ∷ some_run is_blank ∷ header_stamp ∷ some_run is_blank ∷ host
    ∷ some_run is_blank ∷ word ∷ some_run is_blank ∷ process_word ∷ some_run is_blank ∷ word
    ∷ run is_blank ∷ forgiving ∷ run is_blank ∷ rest ∷ []

-- the message that the pieces mean
abbrev pub message_of : Values rfc5424_row → MessageValue
message_of (pri, (version, (_, (stamp, (_, (name, (_, (app, (_, (process, (_, (id, (_, (es, (_, (m, _)))))))))))))))) =
    message_of_parts (RFC5424 version) pri stamp name app process id es m

-- the trimmed text has a division into these pieces, and the message is what they mean
pub record IsRead5424 (text : Text) (m : MessageValue) : Type 0 where
  pub values : Values rfc5424_row
  pub division : Division rfc5424_row (trimmed text) values
  pub means : m ≡ message_of values

-- the trimmed text has no such division
abbrev pub IsNot5424 : Text → Type 0
IsNot5424 text = (vs : Values rfc5424_row) → Division rfc5424_row (trimmed text) vs → ⊥

-- and each text of that message is one of the pieces, or a part of one
pub record Quotes5424 (text : Text) (m : MessageValue) : Type 0 where
  pub read : IsRead5424 text m
  pub each : AreInPieces read.division.pieces (message_texts m)
