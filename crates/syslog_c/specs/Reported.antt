-- What `syslog_read`, `syslog_read_fields` and `syslog_is_canonical` leave.
use Rattle.std.specs.Prelude.{◌≡◌, ◌⊎◌, ℕ, ◌<◌, List, [], length, Option, MatchOption}
use Rattle.syslog_text.specs.Pieces.Class.{Text}
use Rattle.syslog_elements.specs.StructuredData.Element.{ElementValue}
use Rattle.syslog_elements.specs.StructuredData.Visited.{list_elements}
use Rattle.syslog_elements.specs.declared.structured_data.recognised.ElementList.{ElementList}
use Rattle.syslog_pieces.specs.Timestamp.Zone.{Dating}
use Rattle.syslog_loose.specs.Canonical.{IsCanonical}
use Rattle.syslog_loose.specs.Message.{MessageValue}
use Rattle.syslog_loose.specs.Reading.{IsOnlyRead, dash_rule}
use Rattle.syslog_loose.specs.declared.variant.Variant.{Variant}
use Rattle.syslog_dialects.specs.SentReading.{IsUnsent}
use Rattle.syslog_sent.specs.declared.dialect.Dialect.{Dialect}
use Rattle.syslog_c.specs.Fields.{AreFields, IsBegun, IsElement, IsParam, all_params}
use Rattle.syslog_c.specs.Line.{Refuses}
use Rattle.syslog_c.specs.OfLine.{HasUnparsed}
use Rattle.syslog_c.specs.Sent.{IsOnlyMeant, RefusesSent}
use Rattle.syslog_c.specs.Shown.{IsShownIn}
use Rattle.syslog_c.specs.declared.fields.Element.{Element}
use Rattle.syslog_c.specs.declared.fields.Fields.{Fields}
use Rattle.syslog_c.specs.declared.fields.Param.{Param}
use Rattle.syslog_c.specs.declared.outcome.Outcome.{Outcome}
use Rattle.syslog_c.specs.declared.outcome.Outcome.TheVariants.{Done, NoReading, NoRoom}
use Rattle.syslog_c.specs.declared.rules.Rules.{Rules}

-- the whole message is reported; or one of the arrays is too small, and the fields are
abbrev pub IsReported : Option Dialect → MessageValue → Fields → List Element → List Element → List Param → List Param
    → Outcome → Type 0
IsReported dialect m fields old_elements elements old_params params Done = AreFields fields dialect m
    × IsBegun IsElement m.structured_data old_elements elements
    × IsBegun IsParam (all_params m.structured_data) old_params params
IsReported dialect m fields old_elements elements old_params params NoRoom = AreFields fields dialect m
    × ((length elements < length m.structured_data) ⊎ (length params < length (all_params m.structured_data)))
IsReported dialect m fields old_elements elements old_params params outcome = ⊥

-- the one message as which the text is read, in one dialect or none, is reported; or there is none, and all is as it
-- was
abbrev pub ReadsInto : Rules → Dating → Text → Fields → Fields → List Element → List Element
    → List Param → List Param → Outcome → Type 0
ReadsInto rules dating text old_fields fields old_elements elements old_params params outcome =
    ((dialect : Option Dialect) × (m : MessageValue) × IsOnlyMeant rules dating text dialect m
    × IsShownIn rules dating text dialect m fields.timestamp × HasUnparsed rules text dialect fields
    × IsReported dialect m fields old_elements elements old_params params outcome)
    ⊎ (RefusesSent rules dating text outcome × (fields ≡ old_fields) × (elements ≡ old_elements)
    × (params ≡ old_params))

-- the fields are those of the one message as which the text is read, and these are its elements
pub record AreMeant (rules : Rules) (dating : Dating) (text : Text) (es : List ElementValue) (fields : Fields)
    : Type 0 where
  pub dialect : Option Dialect
  pub message : MessageValue
  pub only : IsOnlyMeant rules dating text dialect message
  pub are : AreFields fields dialect message
  pub shown : IsShownIn rules dating text dialect message fields.timestamp
  pub leaves : HasUnparsed rules text dialect fields
  pub elements : message.structured_data ≡ es

-- the fields are those of the one message, whose elements are those that the port's line has; or the port's has none,
-- and they are those of a dialect's line
abbrev pub AreTaken : Rules → Dating → Text → List ElementValue → Option ElementList → Fields → Type 0
AreTaken rules dating text port own fields = (es : List ElementValue) × AreMeant rules dating text es fields
    × MatchOption own (es ≡ port) (λ list. (port ≡ []) × (es ≡ list_elements list))

-- the fields are those of a message; or there is none, and they are as they were
abbrev pub MeansOnly : Rules → Dating → Text → Fields → Fields → Outcome → Type 0
MeansOnly rules dating text old new Done = (es : List ElementValue) × AreMeant rules dating text es new
MeansOnly rules dating text old new NoReading =
    IsUnsent rules.dates dating rules.dialects rules.variant text × (new ≡ old)
MeansOnly rules dating text old new outcome = ⊥

-- its fields alone are reported; or there is none, and all is as it was
abbrev pub ReportsFields : Rules → Dating → Text → Fields → Fields → Outcome → Type 0
ReportsFields rules dating text old_fields fields outcome =
    ((dialect : Option Dialect) × (m : MessageValue) × IsOnlyMeant rules dating text dialect m × (outcome ≡ Done)
    × AreFields fields dialect m × IsShownIn rules dating text dialect m fields.timestamp
    × HasUnparsed rules text dialect fields)
    ⊎ (RefusesSent rules dating text outcome × (fields ≡ old_fields))

-- 1 of a canonical message, 0 of another
abbrev pub ReportsCanonical : MessageValue → ℕ → Type 0
ReportsCanonical m told = ((told ≡ 1) × IsCanonical dash_rule m) ⊎ ((told ≡ 0) × (IsCanonical dash_rule m → ⊥))

-- of the one message as which the text is read; or there is none, and 0 is reported
abbrev pub ReportsOwnCanonical : Variant → Dating → Text → ℕ → Outcome → Type 0
ReportsOwnCanonical variant dating text told outcome =
    ((m : MessageValue) × IsOnlyRead variant dating text m × (outcome ≡ Done) × ReportsCanonical m told)
    ⊎ (Refuses variant dating text outcome × (told ≡ 0))
