-- The cells of a message and of a line that is no message, one after the other.
use Rattle.std.proofs.Common.{◌≡◌, ℕ, List, [], ◌∷◌, ◌++◌, Bool, true, false, Option, None, Some, cond, codes, refl}
use Rattle.std.proofs.Common.{sym, ap, ◌∙◌}
use Rattle.std.proofs.Common.{map, option_map}
use Rattle.std.specs.List.{AllByRecursion}
use Rattle.std.specs.Prelude.{encode_utf8_all}
use Rattle.std.specs.Str.{bytes_eq}
use Rattle.json.specs.Find.{get, get_member, later_or}
use Rattle.json.specs.Json.{Json, number, object}
use Rattle.json.specs.Print.{print, print_from}
use Rattle.json.specs.Tree.{json_tokens}
use Rattle.syslog_pieces.specs.Pri.{facility_name, facility_number, severity_name, severity_number}
use Rattle.syslog_pieces.specs.ProcId.{procid_text}
use Rattle.syslog_pieces.specs.declared.pri.SyslogFacility.{SyslogFacility}
use Rattle.syslog_pieces.specs.declared.pri.SyslogSeverity.{SyslogSeverity}
use Rattle.syslog_loose.specs.Message.{MessageValue}
use Rattle.syslog_object.proofs.WrittenLemmas.{printed}
use Rattle.syslog_object.specs.Gathered.{members_of}
use Rattle.syslog_object.specs.Object.{Beside, Field, fields_of, message_json, number_json, present, protocol_text}
use Rattle.syslog_object.specs.Object.{refused_json}
use Rattle.syslog_object.specs.Object.{structured_json, text_json, timestamp_json, version_json}
use Rattle.std.specs.Option.{unwrap_or}
use Rattle.syslog_pieces.specs.Front.{clock_text}
use Rattle.syslog_elements.specs.StructuredData.Element.{ElementValue}
use Rattle.syslog_pieces.specs.Timestamp.{stamp_seen}
use Rattle.syslog_pieces.specs.declared.timestamp.clock.ClockStamp.{ClockStamp}
use Rattle.syslog_object.specs.Elements.{IsStructuredText}
use Rattle.syslog_csv.proofs.RecordLemmas.{only_record}
use Rattle.syslog_csv.specs.Records.{record_text}
use Rattle.syslog_csv.specs.Rows.{IsRowOf, cell_of, cells_of, columns}

-- a number is its digits
pub number_digits : (text : List ℕ) → print (json_tokens (number text)) ≡ text
number_digits text = sym (printed (number text))

-- a key that is no field's has no value
pub absent : (key : List ℕ) (fields : List Field) → AllByRecursion (λ field. bytes_eq field.0 key ≡ false) fields
    → get_member key (members_of (present fields)) ≡ None
absent key [] others = refl
absent key ((other, None) ∷ fields) others = absent key fields others.1
absent key ((other, Some value) ∷ fields) others = rw (absent key fields others.1, others.0) refl

-- the last value of a key
abbrev field_at : List ℕ → List Field → Option Json
field_at key [] = None
field_at key (field ∷ fields) = later_or (field_at key fields) (cond (bytes_eq field.0 key) field.1 None)

later_none : (o : Option Json) → later_or o None ≡ o
later_none None = refl
later_none (Some value) = refl

both_none : (b : Bool) → cond {A = Option Json} b None None ≡ None
both_none true = refl
both_none false = refl

get_present : (key : List ℕ) (fields : List Field) → get_member key (members_of (present fields)) ≡ field_at key fields
get_present key [] = refl
get_present key ((other, None) ∷ fields) =
    get_present key fields ∙ sym (ap (λ (o : Option Json). later_or (field_at key fields) o)
    (both_none (bytes_eq other key))
    ∙ later_none (field_at key fields))
get_present key ((other, Some value) ∷ fields) =
    ap (λ (o : Option Json). later_or o (cond (bytes_eq other key) (Some value) None)) (get_present key fields)

-- the cells of a message, with this facility, this severity and these elements
abbrev pub cells_with : MessageValue → Beside → Option SyslogFacility → Option SyslogSeverity → List ℕ → List (List ℕ)
cells_with m beside facility severity elements =
    protocol_text m.protocol
    ∷ cell_of (version_json m.protocol)
    ∷ cell_of (option_map text_json beside.dialect)
    ∷ cell_of (option_map (λ f. text_json (facility_name f)) facility)
    ∷ cell_of (option_map (λ f. number_json (facility_number f)) facility)
    ∷ cell_of (option_map (λ s. text_json (severity_name s)) severity)
    ∷ cell_of (option_map (λ s. number_json (severity_number s)) severity)
    ∷ cell_of (option_map timestamp_json m.timestamp)
    ∷ cell_of (option_map text_json m.hostname)
    ∷ cell_of (option_map text_json m.appname)
    ∷ cell_of (option_map (λ p. text_json (procid_text p)) m.procid)
    ∷ cell_of (option_map text_json m.msgid)
    ∷ elements
    ∷ cell_of (option_map text_json beside.unparsed)
    ∷ encode_utf8_all m.msg
    ∷ cell_of (option_map text_json beside.raw)
    ∷ [] ∷ [] ∷ []

abbrev pub message_cells : MessageValue → Beside → List (List ℕ)
message_cells m beside = cells_with m beside m.facility m.severity (cell_of (structured_json m.structured_data))

-- what each key has, by the fields
field_cells : (columns : List (List ℕ)) (fields : List Field)
    → map (λ column. cell_of (get column (object (members_of (present fields))))) columns
    ≡ map (λ column. cell_of (field_at column fields)) columns
field_cells [] fields = refl
field_cells (column ∷ columns) fields = rw (get_present column fields, field_cells columns fields) refl

pub cells_of_message : (m : MessageValue) (beside : Beside) → cells_of (message_json m beside) ≡ message_cells m beside
cells_of_message m beside = field_cells columns (fields_of m beside) ∙ simp later_none

pub cells_of_refused : (line : List ℕ) → cells_of (refused_json line)
    ≡ [] ∷ [] ∷ [] ∷ [] ∷ [] ∷ [] ∷ [] ∷ [] ∷ [] ∷ [] ∷ [] ∷ [] ∷ [] ∷ [] ∷ line ∷ [] ∷ codes "true" ∷ [] ∷ []
unfolding print_from
cells_of_refused line = refl

pub stamp_same : (stamp : Option ClockStamp)
    → unwrap_or (option_map (λ s. clock_text (Some s)) stamp) [] ≡ cell_of
    (option_map timestamp_json (stamp_seen stamp))
stamp_same None = refl
stamp_same (Some stamp) = refl

pub elements_same : (elements : List ElementValue) (bytes : List ℕ) → IsStructuredText elements bytes
    → bytes ≡ cell_of (structured_json elements)
elements_same [] bytes is = is
elements_same (e ∷ es) bytes is = is.compact

-- the record of these cells and a CR is the row of the value
pub row_made : (value : Json) (cells : List (List ℕ)) (bytes : List ℕ) → cells ≡ cells_of value
    → bytes ≡ record_text cells ++ (13 ∷ []) → IsRowOf value bytes
row_made value cells bytes are is = record {
  text = is ∙ ap (λ (l : List (List ℕ)). record_text l ++ (13 ∷ [])) are;
  read_back = only_record _ _;
}

-- what was written into an empty row
pub from_empty : (empty begun cells : List ℕ) → empty ≡ [] → begun ≡ empty ++ cells → begun ≡ cells
from_empty empty begun cells none is = is ∙ ap (λ (l : List ℕ). l ++ cells) none
