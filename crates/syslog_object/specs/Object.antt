-- The object of a line: this project's own choice.
use Rattle.std.specs.Prelude.{ℕ, nat_eq, if◌then◌else◌, true, List, [], ◌∷◌, ◌++◌, Option, Some, None, codes, map}
use Rattle.std.specs.Prelude.{decimal, encode_utf8_all}
use Rattle.std.specs.Option.{option_map}
use Rattle.syslog_text.specs.Pieces.Class.{Text}
use Rattle.syslog_pieces.specs.Pri.{facility_name, facility_number, severity_name, severity_number}
use Rattle.syslog_pieces.specs.ProcId.{procid_text}
use Rattle.syslog_elements.specs.StructuredData.Element.{ElementValue}
use Rattle.syslog_elements.specs.StructuredData.Escapes.{pair_meaning}
use Rattle.syslog_elements.specs.StructuredData.Unparsed.{if_any}
use Rattle.syslog_pieces.specs.Timestamp.Printed.{printed_stamp}
use Rattle.syslog_pieces.specs.declared.timestamp.OffsetTimestamp.{OffsetTimestamp}
use Rattle.syslog_loose.specs.declared.message.Protocol.{Protocol}
use Rattle.syslog_loose.specs.declared.message.Protocol.TheVariants.{RFC3164, RFC5424}
use Rattle.syslog_loose.specs.Message.{MessageValue}
use Rattle.json.specs.Json.{Json, boolean, number, string, object}
use Rattle.syslog_object.specs.Gathered.{gathered, members_of}

abbrev pub text_json : Text → Json
text_json text = string (encode_utf8_all text)

abbrev pub number_json : ℕ → Json
number_json n = number (decimal n)

-- ---- elements

-- bytes without the escapes of a value: a backslash and the byte after it are what the pair means, and a last
-- backslash alone is nothing
abbrev mutual
  pub unescaped : List ℕ → List ℕ
  unescaped [] = []
  unescaped (c ∷ rest) = if nat_eq c 92 then after_backslash rest else c ∷ unescaped rest

  pub after_backslash : List ℕ → List ℕ
  after_backslash [] = []
  after_backslash (c ∷ rest) = pair_meaning c ++ unescaped rest

-- a parameter's name, and its value without escapes
abbrev pub param_pair : Text × Text → List ℕ × Json
param_pair param = (encode_utf8_all param.0, string (unescaped (encode_utf8_all param.1)))

-- the object of an element's parameters
abbrev pub element_json : ElementValue → Json
element_json element = gathered (map param_pair element.params)

abbrev pub element_pair : ElementValue → List ℕ × Json
element_pair element = (encode_utf8_all element.id, element_json element)

-- the object of elements, where there are some
abbrev pub structured_json : List ElementValue → Option Json
structured_json [] = None
structured_json (e ∷ es) = Some (gathered (map element_pair (e ∷ es)))

-- ---- messages

abbrev pub protocol_text : Protocol → List ℕ
protocol_text RFC3164 = codes "RFC3164"
protocol_text (RFC5424 version) = codes "RFC5424"

abbrev pub version_json : Protocol → Option Json
version_json RFC3164 = None
version_json (RFC5424 version) = Some (number_json version)

-- as it is printed
abbrev pub timestamp_json : OffsetTimestamp → Json
timestamp_json stamp = string (printed_stamp stamp.instant.nanosecond stamp.offset.seconds)

-- a key, and its value if it has one
abbrev pub Field : Type 0
Field = List ℕ × Option Json

-- the fields that have a value
abbrev pub present : List Field → List (List ℕ × Json)
present [] = []
present ((key, None) ∷ fields) = present fields
present ((key, Some value) ∷ fields) = (key, value) ∷ present fields

abbrev pub object_of : List Field → Json
object_of fields = object (members_of (present fields))

-- What the object has beside the message, each if it is given. They are the name of the dialect in which the line was
-- read, the structured data that was left unparsed, and the line as it came.
pub record Beside : Type 0 where
  pub dialect : Option Text
  pub unparsed : Option Text
  pub raw : Option Text

-- the fields of a message
abbrev pub fields_of : MessageValue → Beside → List Field
fields_of m beside =
    (codes "protocol", Some (string (protocol_text m.protocol)))
    ∷ (codes "version", version_json m.protocol)
    ∷ (codes "dialect", option_map text_json beside.dialect)
    ∷ (codes "facility", option_map (λ f. text_json (facility_name f)) m.facility)
    ∷ (codes "facility_code", option_map (λ f. number_json (facility_number f)) m.facility)
    ∷ (codes "severity", option_map (λ s. text_json (severity_name s)) m.severity)
    ∷ (codes "severity_code", option_map (λ s. number_json (severity_number s)) m.severity)
    ∷ (codes "timestamp", option_map timestamp_json m.timestamp)
    ∷ (codes "hostname", option_map text_json m.hostname)
    ∷ (codes "appname", option_map text_json m.appname)
    ∷ (codes "procid", option_map (λ p. text_json (procid_text p)) m.procid)
    ∷ (codes "msgid", option_map text_json m.msgid)
    ∷ (codes "structured_data", structured_json m.structured_data)
    ∷ (codes "unparsed_structured_data", option_map text_json beside.unparsed)
    ∷ (codes "message", Some (text_json m.msg))
    ∷ (codes "raw", option_map text_json beside.raw)
    ∷ []

-- the value of a message
abbrev pub message_json : MessageValue → Beside → Json
message_json m beside = object_of (fields_of m beside)

-- what a line has beside its message: of its structured data this is left unparsed
abbrev pub beside_line : Option Text → Text → Option Text → Beside
beside_line dialect unparsed raw = record { dialect = dialect; unparsed = if_any unparsed; raw = raw }

-- the value of a line that is no message
abbrev pub refused_json : List ℕ → Json
refused_json line = object_of ((codes "message", Some (string line)) ∷ (codes "refused", Some (boolean true)) ∷ [])
