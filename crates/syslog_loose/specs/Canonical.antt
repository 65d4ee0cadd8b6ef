-- The written condition: the messages that are read back unchanged from their printed text. It speaks of the fields
-- alone, and never of reading. (This project's own.)
use Rattle.std.specs.Prelude.{◌≡◌, ◌≢◌, ◌↔◌, ◌<◌, ◌^◌, ◌&&◌}
use Rattle.syslog_loose.specs.Words.{ℕ, not, nat_eq, ⊤, Bool, IsTrue, MatchBool, List, [], length, Option, Some, None}
use Rattle.syslog_loose.specs.Words.{IfSome, IsSome, AllByRecursion, option_map, Text, Each, Ends, procid_value}
use Rattle.syslog_loose.specs.Words.{ElementValue, BeginsNoList, is_blank, is_tag_char, dash, is_label_char, ProcId}
use Rattle.syslog_loose.specs.Words.{PID, Name, DashRule}
pub use Rattle.syslog_pieces.specs.ProcId.{IsBoundedProcess, IsNoI32Text, IsCanonicalProcess}
pub use Rattle.syslog_elements.specs.StructuredData.Canonical.{IsCanonicalElement}
pub use Rattle.syslog_text.specs.Text.Canonical.{IsVisible, IsCanonicalHost, IsCanonicalWord, EndsVisibly}
pub use Rattle.syslog_pieces.specs.Timestamp.Canonical.{IsCanonicalStamp}
use Rattle.syslog_loose.specs.declared.message.canonical.CheckedFields.{CheckedFields}
use Rattle.syslog_loose.specs.{Message.MessageValue, TagForm.IsNoForm, declared.message.Protocol.Protocol}
use Rattle.syslog_loose.specs.declared.message.Protocol.TheVariants.{RFC3164, RFC5424}

-- ---- the bounds of a message's numbers, which those of the program always meet

-- the version and the number of the process have 32 bits
pub record IsBounded (m : MessageValue) : Type 0 where
  pub protocol : elim m.protocol as (λ _. Type 0) [ RFC3164 ↦ ⊤ | RFC5424 version ↦ version < 2 ^ 32 ]
  pub procid : IfSome m.procid IsBoundedProcess

-- ---- what both protocols ask

pub record IsCanonicalInBoth (m : MessageValue) : Type 0 where
  pub facility : IsSome m.facility
  pub severity : IsSome m.severity
  pub timestamp : IfSome m.timestamp IsCanonicalStamp
  pub hostname : IfSome m.hostname IsCanonicalHost
  pub elements : AllByRecursion IsCanonicalElement m.structured_data
  pub msg_front : Ends is_blank m.msg
  pub msg_end : EndsVisibly m.msg

-- ---- what RFC 5424 asks beyond that

pub record IsCanonical5424 (m : MessageValue) : Type 0 where
  pub appname : IfSome m.appname IsCanonicalWord
  pub procid : IfSome m.procid IsCanonicalProcess
  pub msgid : IfSome m.msgid IsCanonicalWord

-- ---- what RFC 3164 asks beyond that

-- neither white space nor a colon nor `]`
abbrev pub is_process_char : ℕ → Bool
is_process_char c = is_tag_char c && not (nat_eq c 93)

-- a name is nonempty, no text of a number, and without white space, colons and `]`
abbrev pub IsBracketedProcess : ProcId Text → Type 0
IsBracketedProcess (PID n) = ⊤
IsBracketedProcess (Name t) = (0 < length t) × Each is_process_char t × IsNoI32Text t

-- A process id comes only with an app name, which then has no white space, no colon and no `[`, and may be empty. An
-- app name alone is a tag word but not `-`; and neither it nor a host without one is of the form `tag[id]`.
abbrev pub AreCanonicalNames : Option Text → Option Text → Option (ProcId Text) → Type 0
AreCanonicalNames host None None = IfSome host IsNoForm
AreCanonicalNames host None (Some process) = ⊥
AreCanonicalNames host (Some app) None = (0 < length app) × Each is_tag_char app × (app ≢ dash) × IsNoForm app
AreCanonicalNames host (Some app) (Some process) = Each is_label_char app × IsBracketedProcess process

pub record IsCanonical3164 (rule : DashRule) (m : MessageValue) : Type 0 where
  pub msgid : m.msgid ≡ None
  pub names : AreCanonicalNames m.hostname m.appname m.procid
  pub elements : AllByRecursion (λ e. 0 < length e.params) m.structured_data
  pub no_list : m.structured_data ≡ [] → BeginsNoList rule m.msg

-- ---- the condition

abbrev pub IsCanonicalFor : DashRule → Protocol → MessageValue → Type 0
IsCanonicalFor rule RFC3164 m = IsCanonical3164 rule m
IsCanonicalFor rule (RFC5424 version) m = IsCanonical5424 m

-- the message is read back unchanged from its printed text, and only such a one is
abbrev pub IsCanonical : DashRule → MessageValue → Type 0
IsCanonical rule m = IsCanonicalInBoth m × IsCanonicalFor rule m.protocol m

-- ---- words of the bodies

-- whether there is no element, and whether each has a parameter
pub record AreElements (none params : Bool) (es : List ElementValue) : Type 0 where
  pub none_is : MatchBool none (es ≡ []) (es ≢ [])
  pub params_is : IsTrue params ↔ AllByRecursion (λ e. 0 < length e.params) es

-- the message of these fields and elements
abbrev pub fields_value : {S : Type 0} → (S → Text) → CheckedFields S → List ElementValue → MessageValue
fields_value text f es = record {
  protocol = f.protocol;
  facility = f.facility;
  severity = f.severity;
  timestamp = f.timestamp;
  hostname = option_map text f.hostname.now;
  appname = option_map text f.appname.now;
  procid = option_map (procid_value text) f.procid.now;
  msgid = option_map text f.msgid.now;
  structured_data = es;
  msg = text f.msg.now;
}
