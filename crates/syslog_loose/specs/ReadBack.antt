-- What the reading calls return for a printed message, and what is known of the fields of a message that was read.
use Rattle.std.specs.Prelude.{◌≡◌, ◌≢◌, ◌↔◌, ◌⊎◌}
use Rattle.syslog_loose.specs.Words.{⊤, ℕ, List, Result, Err, String, string_bytes, IfSome, IsSome, IsOkAnd, Global}
use Rattle.syslog_loose.specs.Words.{Bor, Text, shown, IsCanonicalStamp, Dating}
use Rattle.syslog_loose.specs.{Canonical.IsBounded, Canonical.IsCanonical, Message.MessageValue, Message.message_value}
use Rattle.syslog_loose.specs.Quirks.{HasNoQuirk, IsNearlyCanonical, IsOfMonthDate}
use Rattle.syslog_loose.specs.{Printed.printed, Reading.dash_rule, Rfc3164.IsRead3164, Rfc5424.IsRead5424}
use Rattle.syslog_loose.specs.declared.fault.ParseFault.{ParseFault, TheVariants.Memory}
use Rattle.syslog_loose.specs.declared.{message.Message.Message, message.Protocol.Protocol, variant.Variant.Variant}
use Rattle.syslog_loose.specs.declared.variant.Variant.TheVariants.{Either, RFC3164, RFC5424}
use Rattle.syslog_loose.specs.declared.message.Protocol.TheVariants as protocol

-- `Either`, or the protocol's own
abbrev pub ReadsProtocol : Variant → Protocol → Type 0
ReadsProtocol Either p = ⊤
ReadsProtocol RFC3164 protocol.RFC3164 = ⊤
ReadsProtocol RFC3164 (protocol.RFC5424 version) = ⊥
ReadsProtocol RFC5424 protocol.RFC3164 = ⊥
ReadsProtocol RFC5424 (protocol.RFC5424 version) = ⊤

-- unless an allocation fails, a printed message is read as itself exactly if it meets the written condition
abbrev pub AnswersItself : Variant → Text → Result (Message (Bor (List ℕ))) ParseFault → Type 0
AnswersItself variant text result = (m : MessageValue) → IsBounded m → ReadsProtocol variant m.protocol
    → text ≡ printed m → result ≢ Err Memory
    → IsOkAnd result (λ found. message_value (λ s. shown s) found ≡ m) ↔ IsCanonical dash_rule m

-- What is read as RFC 5424 with a facility meets the condition. What is read as RFC 3164 with one does but for the
-- quirks, and its timestamp is canonical, or that of a month date.
abbrev pub FieldsAsRead : Protocol → Dating → Text → MessageValue → Type 0
FieldsAsRead (protocol.RFC5424 version) dating text m = IsSome m.facility → IsCanonical dash_rule m
FieldsAsRead protocol.RFC3164 dating text m = (IsSome m.facility → IsNearlyCanonical m)
    × IfSome m.timestamp (λ s. IsCanonicalStamp s ⊎ IsOfMonthDate dating text s)

-- The text is printed of a message that normalising keeps. It is one that meets the condition, or one that was read,
-- with a facility or without: as RFC 5424, or as RFC 3164 and then with none of the quirks.
abbrev pub IsFixed : MessageValue → Type 0
IsFixed m = (IsBounded m × IsCanonical dash_rule m) ⊎ ((text : Text) × IsRead5424 text m)
    ⊎ ((text : Text) × (dating : Dating) × IsRead3164 dash_rule dating text m × HasNoQuirk dash_rule m)

-- Unless an allocation fails, the printed text of such a message is returned again.
abbrev pub AnswersAgain : Variant → Text → List ℕ → Result (String Global) ParseFault → Type 0
AnswersAgain variant text bytes result = (m : MessageValue) → IsFixed m → ReadsProtocol variant m.protocol
    → text ≡ printed m → result ≢ Err Memory
    → IsOkAnd result (λ again. string_bytes again ≡ bytes)
