-- What the calls leave that write a text.
use Rattle.std.specs.Prelude.{◌≡◌, ◌⊎◌, ℕ, Bool, nat_eq, not, if◌then◌else◌, List, Option, None, Some}
use Rattle.std.specs.Str.{chars, encode_utf8_all, IsUtf8}
use Rattle.syslog_text.specs.Pieces.Class.{Text}
use Rattle.syslog_elements.specs.StructuredData.Escapes.{IsUnescaped}
use Rattle.syslog_pieces.specs.Timestamp.Zone.{Dating}
use Rattle.syslog_loose.specs.Message.{MessageValue}
use Rattle.syslog_loose.specs.Printed.{printed}
use Rattle.syslog_loose.specs.Reading.{IsOnlyRead}
use Rattle.syslog_loose.specs.Settling.{IsSettlingFault, SettlesAs}
use Rattle.syslog_loose.specs.declared.fault.ParseFault.TheVariants.{Invalid, Memory}
use Rattle.syslog_loose.specs.declared.variant.Variant.{Variant}
use Rattle.syslog_sent.specs.Dialect.{dialect_text}
use Rattle.syslog_dialects.specs.SentReading.{LeavesSent}
use Rattle.syslog_sent.specs.declared.dialect.Dialect.{Dialect}
use Rattle.syslog_object.specs.Object.{beside_line, message_json}
use Rattle.syslog_object.specs.Written.{IsTextOf}
use Rattle.syslog_utf8.specs.Decoded.{AreTakenFor}
use Rattle.syslog_c.specs.Line.{Refuses}
use Rattle.syslog_c.specs.Room.{IsLeft, Puts}
use Rattle.syslog_c.specs.Sent.{IsOnlyMeant, RefusesSent}
use Rattle.syslog_c.specs.declared.outcome.Outcome.{Outcome}
use Rattle.syslog_c.specs.declared.outcome.Outcome.TheVariants.{NoReading, NotUtf8, NoMemory}
use Rattle.syslog_c.specs.declared.rules.Rules.{Rules}

-- these bytes spell the first settled round of the text
pub record IsSettledText (variant : Variant) (dating : Dating) (text : Text) (bytes : List ℕ) : Type 0 where
  pub utf8 : IsUtf8 bytes
  pub settles : SettlesAs variant dating text (chars bytes)

-- why there is none: it is never settled, or an allocation failed
abbrev pub SettlesNot : Variant → Dating → Text → Outcome → Type 0
SettlesNot variant dating text NoReading = IsSettlingFault variant dating text Invalid
SettlesNot variant dating text NoMemory = IsSettlingFault variant dating text Memory
SettlesNot variant dating text outcome = ⊥

-- the first settled round, in the buffer or with its length alone; or there is none, and all is as it was
abbrev pub Settled : Variant → Dating → Text → List ℕ → List ℕ → ℕ → Outcome → Type 0
Settled variant dating text old new needed outcome =
    ((bytes : List ℕ) × IsSettledText variant dating text bytes × Puts bytes old new needed outcome)
    ⊎ (SettlesNot variant dating text outcome × IsLeft old new needed)

-- The printed text of the one message as which the text is read is in the buffer, or its length alone is reported. Or
-- there is no message, and all is as it was.
abbrev pub Normalised : Variant → Dating → Text → List ℕ → List ℕ → ℕ → Outcome → Type 0
Normalised variant dating text old new needed outcome =
    ((m : MessageValue) × IsOnlyRead variant dating text m
    × Puts (encode_utf8_all (printed m)) old new needed outcome)
    ⊎ (Refuses variant dating text outcome × IsLeft old new needed)

-- the line as it came, where a number that is not 0 asks for it
abbrev pub raw_text : ℕ → Text → Option Text
raw_text raw text = if nat_eq raw 0 then None else Some text

-- The text of the message's object, with what is left unparsed of structured data, is in the buffer, or its length
-- alone is reported. Or an allocation failed, and all is as it was.
abbrev pub PutsObject : Option Dialect → MessageValue → (Text → Type 0) → Option Text → List ℕ → List ℕ → ℕ → Outcome
    → Type 0
PutsObject dialect m Unparsed raw old new needed outcome =
    ((unparsed : Text) × Unparsed unparsed × ((bytes : List ℕ)
    × IsTextOf (message_json m (beside_line (dialect_text dialect) unparsed raw)) bytes
    × Puts bytes old new needed outcome))
    ⊎ ((outcome ≡ NoMemory) × IsLeft old new needed)

-- the object is written for the one message as which the text is read, in one dialect or none; or there is no message,
-- and all is as it was
abbrev pub WritesObject : ℕ → Rules → Dating → Text → List ℕ → List ℕ → ℕ → Outcome → Type 0
WritesObject raw rules dating text old new needed outcome =
    ((dialect : Option Dialect) × (m : MessageValue) × IsOnlyMeant rules dating text dialect m
    × PutsObject dialect m (LeavesSent dialect rules.variant text) (raw_text raw text) old new needed outcome)
    ⊎ (RefusesSent rules dating text outcome × IsLeft old new needed)

-- these bytes spell the value without its escapes
pub record IsUnescapedValue (value bytes : List ℕ) : Type 0 where
  pub value_utf8 : IsUtf8 value
  pub utf8 : IsUtf8 bytes
  pub unescaped : IsUnescaped (chars value) (chars bytes)

-- these bytes are in the buffer, or their length alone is reported; or the value is not UTF-8, and all is as it was
abbrev pub Unescaped : List ℕ → List ℕ → List ℕ → ℕ → Outcome → Type 0
Unescaped value old new needed outcome =
    ((bytes : List ℕ) × IsUnescapedValue value bytes × Puts bytes old new needed outcome)
    ⊎ ((outcome ≡ NotUtf8) × (IsUtf8 value → ⊥) × IsLeft old new needed)

-- whether a number of C asks for something: it is not 0
abbrev pub is_asked : ℕ → Bool
is_asked asked = not (nat_eq asked 0)

-- The text that the bytes are taken for is in the buffer, or its length alone is reported. Or they are not UTF-8, and
-- an allocation failed, and all is as it was.
abbrev pub PutsDecoded : Bool → List ℕ → List ℕ → List ℕ → ℕ → Outcome → Type 0
PutsDecoded is_latin1 bytes old new needed outcome =
    ((text : List ℕ) × AreTakenFor is_latin1 bytes text × Puts text old new needed outcome)
    ⊎ ((outcome ≡ NoMemory) × (IsUtf8 bytes → ⊥) × IsLeft old new needed)
