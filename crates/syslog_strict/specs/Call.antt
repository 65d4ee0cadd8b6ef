-- What the call writes for a text.
use Rattle.std.specs.Prelude.{◌≡◌, ◌↔◌, [], Result, MatchResult}
use Rattle.syslog_text.specs.Pieces.Class.{Text}
use Rattle.syslog_pieces.specs.Timestamp.Zone.{Dating}
use Rattle.syslog_loose.specs.Line.{line_value}
use Rattle.syslog_loose.specs.Message.{MessageValue}
use Rattle.syslog_loose.specs.Printed.{printed}
use Rattle.syslog_loose.specs.Reading.{IsOnlyRead, IsRead, IsUnreadable}
use Rattle.syslog_loose.specs.Unparsed.{IsLeftUnparsed, Leaves}
use Rattle.syslog_loose.specs.declared.fault.ParseFault.{ParseFault}
use Rattle.syslog_loose.specs.declared.fault.ParseFault.TheVariants.{Invalid, Memory}
use Rattle.syslog_loose.specs.declared.line.Line.{Line}
use Rattle.syslog_loose.specs.declared.variant.Variant.{Variant}
use Rattle.syslog_loose.specs.declared.variant.Variant.TheVariants.{Either}
use Rattle.syslog_strict.specs.Conversion.{converted, whole}
use Rattle.syslog_strict.specs.Grammar.{IsSyslogMsg}

-- The text is that of the message, converted. It is in the grammar, and whoever reads it again, whatever the year and
-- zones, reads the converted message, and leaves nothing unparsed.
pub record IsStrictText (m : MessageValue) (text : Text) : Type 0 where
  pub prints : text ≡ printed (converted m)
  pub strict : IsSyslogMsg text
  pub again : (receiver : Dating) → IsRead Either receiver text (converted m)
  pub parsed : Leaves Either text []

-- the text is that of the line's message, with what was left unparsed of its structured data before the message part,
-- converted
abbrev pub IsLineText : Line → Text → Type 0
IsLineText line text = (unparsed : Text) × IsLeftUnparsed line unparsed
    × (text ≡ printed (converted (whole (line_value line) unparsed)))

-- The text is that of the one message as which the input is read, with what is left unparsed of its structured data
-- before the message part, converted.
pub record IsConvertedText (variant : Variant) (dating : Dating) (input text : Text) : Type 0 where
  pub message : MessageValue
  pub read : IsOnlyRead variant dating input message
  pub unparsed : Text
  pub leaves : Leaves variant input unparsed
  pub is : IsStrictText (whole message unparsed) text

-- the text is not in the grammar
abbrev pub NoSyslogMsg : Text → Type 0
NoSyslogMsg text = IsSyslogMsg text → ⊥

-- the input is not in the grammar, and the text is its conversion; or there is a fault, which is `Invalid` exactly
-- where the input is read as no message
abbrev pub Converts : Variant → Dating → Text → Result (Unit {0}) ParseFault → Text → Type 0
Converts variant dating input result text = NoSyslogMsg input
    × MatchResult result (λ _. IsConvertedText variant dating input text)
    (λ fault. (fault ≡ Invalid) ↔ IsUnreadable variant dating input)

-- the input is in the grammar, and is the text, or an allocation for it failed
abbrev pub Copies : Text → Result (Unit {0}) ParseFault → Text → Type 0
Copies input result text = IsSyslogMsg input × MatchResult result (λ _. text ≡ input) (λ fault. fault ≡ Memory)
