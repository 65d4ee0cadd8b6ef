-- What is appended to a text.
use Rattle.std.specs.Prelude.{◌≡◌, ◌∷◌, ◌++◌, [], ℕ, ℤ, String, string_bytes}
use Rattle.std.specs.Global.{Global}
use Rattle.std.specs.Fmt.{decimal}
use Rattle.std.specs.Str.{chars}
use Rattle.syslog_loose.specs.Message.{MessageValue}
use Rattle.syslog_loose.specs.Printed.{elements_text}
use Rattle.syslog_text.specs.Pieces.Class.{Text}
use Rattle.syslog_text.specs.Text.{name_text}
use Rattle.syslog_pieces.specs.declared.timestamp.OffsetTimestamp.{OffsetTimestamp}
use Rattle.syslog_strict.specs.Conversion.{micros}

-- the characters of a text
abbrev pub text_in : String Global → Text
text_in s = chars (string_bytes s)

-- the text has this more at its end
abbrev pub Appends : String Global → Text → String Global → Type 0
Appends old piece new = text_in new ≡ text_in old ++ piece

-- `<priority>1 timestamp`
abbrev pub front_text : ℕ → Text → Text
front_text priority stamp = 60 ∷ (decimal priority ++ (62 ∷ 49 ∷ 32 ∷ stamp))

-- the message id and the elements, with a space before each and after them
abbrev pub data_text : MessageValue → Text
data_text m = 32 ∷ (name_text m.msgid ++ (32 ∷ (elements_text m.structured_data ++ (32 ∷ []))))

-- the instant without what is finer than microseconds, at this offset
abbrev pub IsCutAt : ℤ → ℤ → OffsetTimestamp → Type 0
IsCutAt nanosecond offset s = (s.instant.nanosecond ≡ micros nanosecond) × (s.offset.seconds ≡ offset)
