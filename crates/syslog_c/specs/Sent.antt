-- What a line is read as by the calls that read a line in its dialect.
use Rattle.std.specs.Prelude.{◌≡◌, ◌⊎◌, ℕ, Option, None, Some}
use Rattle.syslog_text.specs.Pieces.Class.{Text}
use Rattle.syslog_pieces.specs.Timestamp.Zone.{Dating}
use Rattle.syslog_loose.specs.Dates.{IsDated}
use Rattle.syslog_loose.specs.Message.{MessageValue}
use Rattle.syslog_loose.specs.Unparsed.{IsLeftUnparsed}
use Rattle.syslog_sent.specs.Dialect.{dialect_number}
use Rattle.syslog_dialects.specs.Note.{IsNote}
use Rattle.syslog_dialects.specs.SentReading.{AreAsked, IsNoted, IsReadSent, IsUnsent, LeavesSent}
use Rattle.syslog_sent.specs.declared.dialect.Dialect.{Dialect}
use Rattle.syslog_dialects.specs.declared.visit.SentLine.{SentLine}
use Rattle.syslog_c.specs.declared.outcome.Outcome.{Outcome}
use Rattle.syslog_c.specs.declared.outcome.Outcome.TheVariants.{NoReading}
use Rattle.syslog_c.specs.declared.rules.Rules.{Rules}

-- the text is read as this message by the rules: in this dialect, or as the port reads it
abbrev pub IsMeant : Rules → Dating → Text → Option Dialect → MessageValue → Type 0
IsMeant rules dating text dialect m = IsReadSent rules.dates dating rules.dialects rules.variant text dialect m

-- and as no other
pub record IsOnlyMeant (rules : Rules) (dating : Dating) (text : Text) (dialect : Option Dialect)
    (m : MessageValue) : Type 0 where
  pub read : IsMeant rules dating text dialect m
  pub only : (other : Option Dialect) (n : MessageValue) → IsMeant rules dating text other n
      → (other ≡ dialect) × (n ≡ m)

-- the text is no line between messages, or such lines are read
abbrev pub IsUnnoted : Rules → Dating → Text → Type 0
IsUnnoted rules dating text = AreAsked rules.dialects rules.variant → IsNoted rules.variant dating text → ⊥

-- whatever its dating, or in that by the rules
abbrev pub IsNoNote : Rules → Text → Type 0
IsNoNote rules text = (IsNote text → ⊥)
    ⊎ IsDated rules.dates rules.variant text (λ dating. IsUnnoted rules dating text)

-- what is left unparsed of the line's structured data is what the text leaves
abbrev pub LeavesOf : Rules → Text → SentLine → Type 0
LeavesOf rules text it =
    (unparsed : Text) → IsLeftUnparsed it.line unparsed → LeavesSent it.dialect rules.variant text unparsed

-- why there is no message: the text is of no dialect, and the port does not parse it
abbrev pub RefusesSent : Rules → Dating → Text → Outcome → Type 0
RefusesSent rules dating text outcome =
    (outcome ≡ NoReading) × IsUnsent rules.dates dating rules.dialects rules.variant text

-- the number of the dialect, or 0
abbrev pub dialect_code : Option Dialect → ℕ
dialect_code None = 0
dialect_code (Some dialect) = dialect_number dialect
