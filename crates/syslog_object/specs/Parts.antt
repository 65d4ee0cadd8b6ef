-- The pieces of an object's text: what private clauses cite.
use Rattle.std.specs.Prelude.{◌≡◌, ◌<◌, ◌^◌, ⊤, Bool, false, true, ℕ, List, [], ◌∷◌, ◌++◌}
use Rattle.std.specs.Prelude.{Option, Some, None, codes, encode_utf8_all}
use Rattle.std.specs.List.{AllByRecursion}
use Rattle.std.specs.Str.{bytes_eq}
use Rattle.std.specs.Option.{option_map}
use Rattle.syslog_text.specs.Pieces.Class.{Text}
use Rattle.syslog_pieces.specs.ProcId.{procid_text}
use Rattle.syslog_loose.specs.Message.{MessageValue}
use Rattle.syslog_pieces.specs.Pri.{facility_name, facility_number, severity_name, severity_number}
use Rattle.syslog_pieces.specs.declared.pri.SyslogFacility.{SyslogFacility}
use Rattle.syslog_pieces.specs.declared.pri.SyslogSeverity.{SyslogSeverity}
use Rattle.syslog_loose.specs.declared.message.Protocol.{Protocol}
use Rattle.syslog_loose.specs.declared.message.Protocol.TheVariants.{RFC3164, RFC5424}
use Rattle.json.specs.Json.{Json, null, boolean, number, string, array, object}
use Rattle.json.specs.Json.{Items, no_items, item, Members, no_members, member}
use Rattle.json.specs.Print.{escape, quoted, separator, token_text}
use Rattle.json.specs.Token as token
use Rattle.syslog_object.specs.Gathered.{members_of}
use Rattle.syslog_object.specs.Object.{Field, present, number_json, protocol_text, text_json}
use Rattle.syslog_object.specs.Object.{timestamp_json, version_json}

-- a comma, where something comes before
abbrev pub comma_if : Bool → List ℕ
comma_if later = separator later token.null

-- the text of a value without a space between tokens: each list goes to its closing bracket
abbrev mutual
  pub compact_text : Json → List ℕ
  compact_text null = token_text token.null
  compact_text (boolean b) = token_text (token.boolean b)
  compact_text (number s) = s
  compact_text (string s) = quoted s
  compact_text (array js) = 91 ∷ items_text false js
  compact_text (object ms) = 123 ∷ members_text false ms

  pub items_text : Bool → Items → List ℕ
  items_text later no_items = 93 ∷ []
  items_text later (item j js) = comma_if later ++ (compact_text j ++ items_text true js)

  pub members_text : Bool → Members → List ℕ
  members_text later no_members = 125 ∷ []
  members_text later (member k j ms) = comma_if later ++ (quoted k ++ 58 ∷ (compact_text j ++ members_text true ms))

-- a member after another one
abbrev pub member_text : List ℕ × Json → List ℕ
member_text pair = 44 ∷ (quoted pair.0 ++ 58 ∷ compact_text pair.1)

-- a field after another one; nothing where it has no value
abbrev pub field_text : List ℕ → Option Json → List ℕ
field_text key None = []
field_text key (Some value) = member_text (key, value)

-- the text of a field with the bytes before it and the quote after it; nothing where there is none
abbrev pub text_field : List ℕ → Option Text → List ℕ
text_field key None = []
text_field key (Some text) = key ++ (escape (encode_utf8_all text) ++ 34 ∷ [])

-- the first fields, with the brace
abbrev pub protocol_fields : Protocol → List ℕ
protocol_fields protocol =
    123 ∷ (quoted (codes "protocol") ++ 58 ∷ (quoted (protocol_text protocol)
    ++ field_text (codes "version") (version_json protocol)))

abbrev pub facility_fields : Option SyslogFacility → List ℕ
facility_fields facility =
    field_text (codes "facility") (option_map (λ f. text_json (facility_name f)) facility)
    ++ field_text (codes "facility_code") (option_map (λ f. number_json (facility_number f)) facility)

abbrev pub severity_fields : Option SyslogSeverity → List ℕ
severity_fields severity =
    field_text (codes "severity") (option_map (λ s. text_json (severity_name s)) severity)
    ++ field_text (codes "severity_code") (option_map (λ s. number_json (severity_number s)) severity)

-- the fields before the elements, with the brace before them
abbrev pub front_text : MessageValue → Option Text → List ℕ
front_text m dialect =
    (((((((protocol_fields m.protocol ++ text_field (codes ",\"dialect\":\"") dialect)
    ++ facility_fields m.facility) ++ severity_fields m.severity)
    ++ field_text (codes "timestamp") (option_map timestamp_json m.timestamp))
    ++ text_field (codes ",\"hostname\":\"") m.hostname) ++ text_field (codes ",\"appname\":\"") m.appname)
    ++ text_field (codes ",\"procid\":\"") (option_map procid_text m.procid))
    ++ text_field (codes ",\"msgid\":\"") m.msgid

-- the fields after them
abbrev pub back_fields : MessageValue → Option Text → Option Text → List Field
back_fields m unparsed raw =
    (codes "unparsed_structured_data", option_map text_json unparsed) ∷ (codes "message", Some (text_json m.msg))
    ∷ (codes "raw", option_map text_json raw) ∷ []

-- ---- objects

-- none of the keys is this one
abbrev pub IsNewKey : List ℕ → List (List ℕ) → Type 0
IsNewKey key keys = AllByRecursion (λ k. bytes_eq key k ≡ false) keys

-- each key comes once
abbrev pub AreDistinct : List (List ℕ) → Type 0
AreDistinct [] = ⊤
AreDistinct (k ∷ ks) = IsNewKey k ks × AreDistinct ks

-- the members after the first one, and the brace
abbrev pub members_after : List (List ℕ × Json) → List ℕ
members_after pairs = members_text true (members_of pairs)

-- the object of members in this order
abbrev pub object_text : List (List ℕ × Json) → List ℕ
object_text pairs = compact_text (object (members_of pairs))

-- members after the first one, without the brace
abbrev pub later_text : List (List ℕ × Json) → List ℕ
later_text [] = []
later_text (p ∷ ps) = member_text p ++ later_text ps

-- the object of members in this order, without its last brace; nothing where there are none
abbrev pub open_text : List (List ℕ × Json) → List ℕ
open_text [] = []
open_text (p ∷ ps) = 123 ∷ (quoted p.0 ++ 58 ∷ (compact_text p.1 ++ later_text ps))

-- the fields after the first one, and the brace
abbrev pub rest_text : List Field → List ℕ
rest_text fields = members_after (present fields)

-- the version is a number of 64 bits
abbrev pub IsSmallVersion : Protocol → Type 0
IsSmallVersion RFC3164 = ⊤
IsSmallVersion (RFC5424 version) = version < 2 ^ 64
