-- What C gets of a message, over the message as a value.
use Rattle.std.specs.Prelude.{◌≡◌, ℕ, ℤ, pos, negsuc, List, [], length, take, drop, Option, None}
use Rattle.std.specs.Prelude.{Some}
use Rattle.std.specs.Int.{int_div_euclid, int_rem_euclid}
use Rattle.std.specs.List.{AllZip, flat_map}
use Rattle.std.specs.Str.{chars, IsUtf8}
use Rattle.syslog_text.specs.Pieces.Class.{Text as Chars}
use Rattle.syslog_pieces.specs.Pri.{facility_number, severity_number}
use Rattle.syslog_elements.specs.StructuredData.Element.{ElementValue}
use Rattle.syslog_pieces.specs.declared.pri.SyslogFacility.{SyslogFacility}
use Rattle.syslog_pieces.specs.declared.pri.SyslogSeverity.{SyslogSeverity}
use Rattle.syslog_pieces.specs.declared.procid.ProcId.{ProcId}
use Rattle.syslog_pieces.specs.declared.procid.ProcId.TheVariants.{PID, Name}
use Rattle.syslog_pieces.specs.declared.timestamp.OffsetTimestamp.{OffsetTimestamp}
use Rattle.syslog_loose.specs.Message.{MessageValue}
use Rattle.syslog_loose.specs.declared.message.Protocol.{Protocol}
use Rattle.syslog_loose.specs.declared.message.Protocol.TheVariants.{RFC3164, RFC5424}
use Rattle.syslog_sent.specs.declared.dialect.Dialect.{Dialect}
use Rattle.syslog_c.specs.declared.fields.Element.{Element}
use Rattle.syslog_c.specs.declared.fields.Fields.{Fields}
use Rattle.syslog_c.specs.declared.fields.Param.{Param}
use Rattle.syslog_c.specs.declared.fields.Process.{Process}
use Rattle.syslog_c.specs.declared.fields.Stamp.{Stamp}
use Rattle.syslog_c.specs.declared.fields.Text.{Text}
use Rattle.syslog_c.specs.Sent.{dialect_code}

-- ---- one field

-- the bytes at the text spell these characters
pub record IsText (t : Text) (text : Chars) : Type 0 where
  pub present : t.present ≡ 1
  pub utf8 : IsUtf8 t.bytes.now
  pub spelt : chars t.bytes.now ≡ text

-- the text is an absent one
pub record IsNoText (t : Text) : Type 0 where
  pub absent : t.present ≡ 0
  pub nothing : t.bytes.now ≡ []

abbrev pub IsOptionalText : Text → Option Chars → Type 0
IsOptionalText t None = IsNoText t
IsOptionalText t (Some text) = IsText t text

abbrev pub IsProcess : Process → Option (ProcId Chars) → Type 0
IsProcess p None = IsNoText p.name × (p.number ≡ pos 0) × (p.is_number ≡ 0)
IsProcess p (Some (PID n)) = IsNoText p.name × (p.number ≡ n) × (p.is_number ≡ 1)
IsProcess p (Some (Name text)) = IsText p.name text × (p.number ≡ pos 0) × (p.is_number ≡ 0)

-- the instant in seconds, rounded down, and the nanoseconds after them
pub record IsSomeStamp (s : Stamp) (at : OffsetTimestamp) : Type 0 where
  pub present : s.present ≡ 1
  pub seconds : s.seconds ≡ int_div_euclid at.instant.nanosecond (pos 1_000_000_000)
  pub nanoseconds : s.nanoseconds ≡ int_rem_euclid at.instant.nanosecond (pos 1_000_000_000)
  pub offset : s.offset ≡ at.offset.seconds

abbrev pub IsStamp : Stamp → Option OffsetTimestamp → Type 0
IsStamp s None = (s.present ≡ 0) × (s.seconds ≡ pos 0) × (s.nanoseconds ≡ pos 0) × (s.offset ≡ pos 0)
    × (s.shows_year ≡ 0) × (s.shows_offset ≡ 0)
IsStamp s (Some at) = IsSomeStamp s at

-- the number of a facility and of a severity, or -1
abbrev pub facility_code : Option SyslogFacility → ℤ
facility_code None = negsuc 0
facility_code (Some f) = pos (facility_number f)

abbrev pub severity_code : Option SyslogSeverity → ℤ
severity_code None = negsuc 0
severity_code (Some s) = pos (severity_number s)

-- the number of the protocol, and the version of RFC 5424
abbrev pub protocol_number : Protocol → ℕ
protocol_number RFC3164 = 3164
protocol_number (RFC5424 version) = 5424

abbrev pub version_number : Protocol → ℕ
version_number RFC3164 = 0
version_number (RFC5424 version) = version

-- ---- elements and parameters

-- the parameters of elements, one after the other
abbrev pub all_params : List ElementValue → List (Chars × Chars)
all_params es = flat_map (λ e. e.params) es

abbrev pub IsElement : Element → ElementValue → Type 0
IsElement e value = IsText e.id value.id × (e.params ≡ length value.params)

abbrev pub IsParam : Param → Chars × Chars → Type 0
IsParam p value = IsText p.name value.0 × IsText p.value value.1

-- The array begins with these values, one at each place, and after them it is as it was.
pub record IsBegun {A B : Type 0} (Is : A → B → Type 0) (values : List B) (old new : List A) : Type 0 where
  pub begins : AllZip Is (take (length values) new) values
  pub after : drop (length values) new ≡ drop (length values) old

-- ---- the message

-- the struct says what the message is, and in which dialect it was read
pub record AreFields (fields : Fields) (read_in : Option Dialect) (m : MessageValue) : Type 0 where
  pub protocol : fields.protocol ≡ protocol_number m.protocol
  pub version : fields.version ≡ version_number m.protocol
  pub facility : fields.facility ≡ facility_code m.facility
  pub severity : fields.severity ≡ severity_code m.severity
  pub timestamp : IsStamp fields.timestamp m.timestamp
  pub host : IsOptionalText fields.host m.hostname
  pub app : IsOptionalText fields.app m.appname
  pub process : IsProcess fields.process m.procid
  pub msgid : IsOptionalText fields.msgid m.msgid
  pub msg : IsText fields.msg m.msg
  pub elements : fields.elements ≡ length m.structured_data
  pub params : fields.params ≡ length (all_params m.structured_data)
  pub dialect : fields.dialect ≡ dialect_code read_in
