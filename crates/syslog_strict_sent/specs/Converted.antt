-- What the call writes for a text that it reads as its sender meant it.
use Rattle.std.specs.Prelude.{◌≡◌, ◌↔◌, Bool, Option, Result, MatchResult}
use Rattle.syslog_text.specs.Pieces.Class.{Text}
use Rattle.syslog_pieces.specs.Timestamp.Zone.{Dating}
use Rattle.syslog_loose.specs.Message.{MessageValue}
use Rattle.syslog_loose.specs.declared.dates.Dates.{Dates}
use Rattle.syslog_loose.specs.declared.fault.ParseFault.{ParseFault}
use Rattle.syslog_loose.specs.declared.fault.ParseFault.TheVariants.{Invalid}
use Rattle.syslog_loose.specs.declared.variant.Variant.{Variant}
use Rattle.syslog_dialects.specs.SentReading.{IsReadSent, IsUnsent, LeavesSent}
use Rattle.syslog_sent.specs.declared.dialect.Dialect.{Dialect}
use Rattle.syslog_strict.specs.Call.{IsStrictText, NoSyslogMsg}
use Rattle.syslog_strict.specs.Conversion.{whole}

-- The text is that of the one message as which the input is read, in this dialect or in none, with what is left
-- unparsed of its structured data before the message part, converted.
pub record IsSentText (dates : Dates) (dating : Dating) (dialects : Bool) (variant : Variant) (input text : Text)
    : Type 0 where
  pub dialect : Option Dialect
  pub message : MessageValue
  pub read : IsReadSent dates dating dialects variant input dialect message
  pub only : (other : Option Dialect) (m : MessageValue) → IsReadSent dates dating dialects variant input other m
      → (other ≡ dialect) × (m ≡ message)
  pub unparsed : Text
  pub leaves : LeavesSent dialect variant input unparsed
  pub is : IsStrictText (whole message unparsed) text

-- the input is not in the grammar, and the text is its conversion; or there is a fault, which is `Invalid` exactly
-- where the input is read as no message
abbrev pub ConvertsSent : Dates → Dating → Bool → Variant → Text → Result (Unit {0}) ParseFault → Text → Type 0
ConvertsSent dates dating dialects variant input result text = NoSyslogMsg input
    × MatchResult result (λ _. IsSentText dates dating dialects variant input text)
    (λ fault. (fault ≡ Invalid) ↔ IsUnsent dates dating dialects variant input)
