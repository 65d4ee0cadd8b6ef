-- What a pass of `settle` writes, and the rank of a message, which falls with each pass. (All of it is this project's
-- own.)
use Rattle.std.specs.Prelude.{◌≡◌, ◌⊎◌, ◌++◌}
use Rattle.syslog_loose.specs.Words.{⊤, ℕ, zero, suc, List, [], Bool, MatchBool, Option, Some, None, IfSome, Result, Ok}
use Rattle.syslog_loose.specs.Words.{Err, MatchResult, chars, AllocError, Text, colon, EndsInColon, IsCanonicalStamp}
use Rattle.syslog_loose.specs.{Line.line_value, Message.MessageValue, Printed.printed, Rfc3164.IsRead3164, Words.Dating}
use Rattle.syslog_loose.specs.{Quirks.HasNoQuirk, Quirks.HasNoNameQuirk, Reading.dash_rule, Reading.IsRead}
use Rattle.syslog_loose.specs.{Bodies.Jumps.IsDashed, declared.line.Line.Line, declared.variant.Variant.Variant}
use Rattle.syslog_loose.specs.Settling.{IsNext, IsSettled, IsSettlingFault, Reaches, SettlesAs}
use Rattle.syslog_loose.specs.declared.{fault.ParseFault.ParseFault, message.Protocol.Protocol}
use Rattle.syslog_loose.specs.declared.fault.ParseFault.TheVariants.{Invalid, Memory}
use Rattle.syslog_loose.specs.declared.message.Protocol.TheVariants.{RFC3164, RFC5424}

-- ---- ranks

-- with no element, the message part is no dash with blanks after it
abbrev pub BeginsNoDashes : MessageValue → Type 0
BeginsNoDashes m = m.structured_data ≡ [] → (rest : Text) → IsDashed m.msg rest → ⊥

-- The message of RFC 3164 has this rank, or a lower one. Each line leaves out what the lines before it ask last.
abbrev pub HasRank : ℕ → MessageValue → Type 0
HasRank zero m = HasNoQuirk dash_rule m
HasRank (suc zero) m = HasNoNameQuirk m × BeginsNoDashes m
HasRank (suc (suc zero)) m = HasNoNameQuirk m
HasRank (suc (suc (suc zero))) m = IfSome m.timestamp IsCanonicalStamp × IfSome m.hostname (λ h. EndsInColon h → ⊥)
HasRank (suc (suc (suc (suc zero)))) m = IfSome m.timestamp IsCanonicalStamp
HasRank (suc (suc (suc (suc (suc n))))) m = ⊤

-- ---- what a pass prints

-- the text does not end in two colons
abbrev pub EndsOnce : Text → Type 0
EndsOnce t = (front : Text) → t ≡ front ++ colon → EndsInColon front → ⊥

-- Of a message of RFC 3164 a pass prints this one: the message itself, or what is read in one of its later rounds.
pub record Prints (m later : MessageValue) : Type 0 where
  pub timestamp : later.timestamp ≡ m.timestamp
  pub one_colon : IfSome m.timestamp IsCanonicalStamp → IfSome later.hostname EndsOnce
  pub host : IfSome m.hostname (λ h. EndsInColon h → ⊥) → later.hostname ≡ m.hostname
  pub quiet : HasNoNameQuirk m → HasNoNameQuirk later
  pub last_dash : HasNoNameQuirk m → later.structured_data ≡ [] → (p q : Text) → IsDashed later.msg p → IsDashed p q
      → ⊥
  pub no_dashes : HasNoNameQuirk m → BeginsNoDashes m → BeginsNoDashes later

-- this is a later round of the input, which was read as the message, and none before it is settled
pub record IsLater (variant : Variant) (dating : Dating) (input : Text) (m : MessageValue) (later : Text) : Type 0 where
  pub before : ℕ
  pub reaches : Reaches variant dating input (suc before) later
  pub text : Text
  pub message : MessageValue
  pub read : IsRead3164 dash_rule dating text message
  pub is_printed : later ≡ printed message
  pub passes : Prints m message

-- ---- words of the bodies

-- a message that was read so prints as a settled text
abbrev pub IsStable : Protocol → MessageValue → Type 0
IsStable RFC3164 m = HasNoQuirk dash_rule m
IsStable (RFC5424 version) m = ⊤

-- a later round of a text that is not settled, none before it is, and what is read of it has a lower rank
pub record IsUnsettled (variant : Variant) (dating : Dating) (text later : Text) : Type 0 where
  pub never : IsSettled variant dating text → ⊥
  pub before : ℕ
  pub reaches : Reaches variant dating text (suc before) later
  pub message : MessageValue
  pub read : IsRead variant dating text message
  pub odd : HasRank 0 message → ⊥
  pub lower : (n : ℕ) (m : MessageValue) → IsRead variant dating later m → HasRank (suc n) message → HasRank n m

-- At most so many passes lead from the text to u. The last writes the next round of the text before it, which is
-- settled.
-- Each other writes a later round of the text before it, before which none is settled, and the rank falls.
unfoldable pub PassesLead : Variant → Dating → ℕ → Text → Text → Type 0
PassesLead variant dating zero text u = ⊥
PassesLead variant dating (suc n) text u = (IsNext variant dating text u × IsSettled variant dating u)
    ⊎ ((later : Text) × IsUnsettled variant dating text later × PassesLead variant dating n later u)

-- where this is true, this is the next round of the text, and settled; or else a round of an unsettled text
abbrev pub IsReportedRound : Variant → Dating → Text → Text → Bool → Type 0
IsReportedRound variant dating text later settled = MatchBool settled
    (IsNext variant dating text later × IsSettled variant dating later) (IsUnsettled variant dating text later)

-- What is written of a line: a round as the flag says, of each text that is read as the line.
abbrev pub WritesRound : Line → Result Bool AllocError → List ℕ → Type 0
WritesRound line made bytes = MatchResult made
    (λ settled. (variant : Variant) (dating : Dating) (whole : Text) → IsRead variant dating whole (line_value line)
    → IsReportedRound variant dating whole (chars bytes) settled)
    (λ _. ⊤)

-- what a call returns when this was written for the line of a text, or when there is no line
abbrev pub round_answer : Option (Result Bool AllocError) → Result Bool ParseFault
round_answer None = Err Invalid
round_answer (Some (Ok settled)) = Ok settled
round_answer (Some (Err _)) = Err Memory

-- this is a round of the text from round 1 on, before which none is settled, and what is read of it has this rank
pub record ReachesRank (variant : Variant) (dating : Dating) (text : Text) (rank : ℕ) (u : Text) : Type 0 where
  pub before : ℕ
  pub reaches : Reaches variant dating text (suc before) u
  pub ranked : (m : MessageValue) → IsRead variant dating u m → HasRank rank m

-- What a pass over u returns, which is a round of the text and has this rank. Where the flag is true, it is the first
-- settled round; where it is false, a later round of a lower rank. Or it is a fault.
abbrev pub AnswersPass : Variant → Dating → Text → ℕ → Text → List ℕ → Result Bool ParseFault → Type 0
AnswersPass variant dating text rank u bytes result = MatchResult result
    (λ settled. IsReportedRound variant dating u (chars bytes) settled
    × MatchBool settled (SettlesAs variant dating text (chars bytes))
    ((lower : ℕ) × (rank ≡ suc lower) × ReachesRank variant dating text lower (chars bytes)))
    (λ fault. IsSettlingFault variant dating text fault)
