-- The conversion of a message to RFC 5424, field by field: what the grammar takes stays as it is. 45 is `-`, 58 `:`, 63
-- `?`, 92 a backslash.
use Rattle.std.specs.Prelude.{negsuc, nat_eq, nat_le, nat_lt, false, if◌then◌else◌, [], Option, unwrap_or, unsigned_abs}
use Rattle.std.specs.Prelude.{ℕ, ℤ, pos, ◌%◌, ◌-ℤ◌, ◌&&◌, not, ◌==◌, Bool, true, List, ◌∷◌, ◌++◌, map, take, Some, None}
use Rattle.std.specs.List.{filter, flat_map, list_any}
use Rattle.std.specs.Int.{int_rem_euclid}
use Rattle.std.specs.Option.{option_and_then, option_map}
use Rattle.std.proofs.Common.{arith}
use Rattle.jiff_core.proofs.SignedLemmas.{signed_arith, int_rem_euclid-parts}
use Rattle.jiff_core.specs.Timestamp.{IsTimestampNanos}
use Rattle.jiff_tz.specs.Zone.{utc_offset}
use Rattle.syslog_text.specs.Pieces.Class.{Text}
use Rattle.syslog_text.specs.Pieces.View.{text_eq}
use Rattle.syslog_pieces.specs.ProcId.{named_process}
use Rattle.syslog_elements.specs.StructuredData.Element.{ElementValue}
use Rattle.syslog_text.specs.Text.{dash, colon}
use Rattle.syslog_pieces.specs.Timestamp.Canonical.{own_year}
use Rattle.syslog_pieces.specs.declared.pri.SyslogFacility.TheVariants.{LOG_USER}
use Rattle.syslog_pieces.specs.declared.pri.SyslogSeverity.TheVariants.{SEV_NOTICE}
use Rattle.syslog_pieces.specs.declared.procid.ProcId.{ProcId}
use Rattle.syslog_pieces.specs.declared.procid.ProcId.TheVariants.{PID, Name}
use Rattle.syslog_pieces.specs.declared.timestamp.OffsetTimestamp.{OffsetTimestamp}
use Rattle.syslog_loose.specs.Message.{MessageValue}
use Rattle.syslog_loose.specs.declared.message.Protocol.TheVariants.{RFC5424}
use Rattle.syslog_strict.specs.Grammar.{ids_of, is_printusascii, is_sd_char, is_escaped}

-- ---- names

-- the character if it passes the test, and otherwise `?`
abbrev pub kept_char : (ℕ → Bool) → ℕ → ℕ
kept_char test c = if test c then c else 63

-- each character so, cut to at most that many
abbrev pub cleaned : (ℕ → Bool) → ℕ → Text → Text
cleaned test most t = map (kept_char test) (take most t)

-- an empty text names nothing, nor does `-`
abbrev pub named : Text → Option Text
named [] = None
named (c ∷ t) = if text_eq (c ∷ t) dash then None else Some (c ∷ t)

abbrev pub no_colon : ℕ → Bool
no_colon c = not (nat_eq c 58)

-- a colon that is the last character becomes `?`, since it would be taken for the one after the names of RFC 3164
abbrev pub without_last_colon : Text → Text
without_last_colon [] = []
without_last_colon (c ∷ []) = kept_char no_colon c ∷ []
without_last_colon (c ∷ d ∷ t) = c ∷ without_last_colon (d ∷ t)

-- so does a colon that is the whole of a word
abbrev pub without_lone_colon : Text → Text
without_lone_colon t = if text_eq t colon then 63 ∷ [] else t

abbrev pub converted_host : Text → Option Text
converted_host t = named (without_last_colon (cleaned is_printusascii 255 t))

abbrev pub converted_word : ℕ → Text → Option Text
converted_word most t = named (without_lone_colon (cleaned is_printusascii most t))

-- a number stays; a name that is cut may be one
abbrev pub converted_process : ProcId Text → Option (ProcId Text)
converted_process (PID n) = Some (PID n)
converted_process (Name t) = option_map named_process (converted_word 128 t)

-- ---- timestamps

-- an instant without what is finer than microseconds
abbrev pub micros : ℤ → ℤ
micros n = n -ℤ int_rem_euclid n (pos 1_000)

pub micros_in_range : (n : ℤ) → IsTimestampNanos n → IsTimestampNanos (micros n)
micros_in_range n h = let parts = int_rem_euclid-parts n 1_000 (omega arith) in omega (arith, signed_arith, parts)

abbrev pub cut_stamp : OffsetTimestamp → OffsetTimestamp
cut_stamp s = record s {
  instant = record {
    nanosecond = micros s.instant.nanosecond;
    in_range = micros_in_range s.instant.nanosecond s.instant.in_range;
  };
}

abbrev pub in_utc : OffsetTimestamp → OffsetTimestamp
in_utc s = record s { offset = utc_offset }

-- a year from 0 to 9999
abbrev pub is_four_digits : ℤ → Bool
is_four_digits (pos year) = nat_le year 9999
is_four_digits (negsuc n) = false

-- the grammar has a text for it: its own clock shows such a year, at whole minutes and less than 24 hours from UTC
abbrev pub has_text : OffsetTimestamp → Bool
has_text s = is_four_digits (own_year s) && (unsigned_abs s.offset.seconds % 60 == 0)
    && nat_lt (unsigned_abs s.offset.seconds) 86_400

-- cut to microseconds; where the grammar has no text for it, in UTC, or absent
abbrev pub converted_stamp : OffsetTimestamp → Option OffsetTimestamp
converted_stamp s = if has_text (cut_stamp s) then Some (cut_stamp s)
    else (if has_text (in_utc (cut_stamp s)) then Some (in_utc (cut_stamp s)) else None)

-- ---- structured data

-- an empty text becomes `?`
abbrev pub or_mark : Text → Text
or_mark [] = 63 ∷ []
or_mark (c ∷ t) = c ∷ t

-- an SD-NAME
abbrev pub converted_name : Text → Text
converted_name t = cleaned is_sd_char 32 (or_mark t)

-- A value with each `\`, `"` and `]` after a backslash. Whether a backslash was read before comes first: with an
-- escaped character it is an escape and stays, and otherwise it is a character as any other.
abbrev pub escaped_from : Bool → Text → Text
escaped_from false [] = []
escaped_from true [] = 92 ∷ 92 ∷ []
escaped_from false (c ∷ t) =
    if nat_eq c 92 then escaped_from true t
    else (if is_escaped c then 92 ∷ c ∷ escaped_from false t else c ∷ escaped_from false t)
escaped_from true (c ∷ t) =
    if is_escaped c then 92 ∷ c ∷ escaped_from false t else 92 ∷ 92 ∷ c ∷ escaped_from false t

abbrev pub converted_value : Text → Text
converted_value t = escaped_from false t

abbrev pub converted_param : Text × Text → Text × Text
converted_param p = (converted_name p.0, converted_value p.1)

abbrev pub converted_element : ElementValue → ElementValue
converted_element e = record { id = converted_name e.id; params = map converted_param e.params }

-- whether the text is one of these
abbrev pub is_among : Text → List Text → Bool
is_among t ts = list_any (λ u. text_eq u t) ts

-- each text once, where it comes first
abbrev pub firsts : List Text → List Text
firsts [] = []
firsts (t ∷ ts) = t ∷ filter (λ u. not (text_eq t u)) (firsts ts)

-- the parameters of all elements with this id, in order
abbrev pub params_of : Text → List ElementValue → List (Text × Text)
params_of id es = flat_map (λ (e : ElementValue). if text_eq e.id id then e.params else []) es

-- elements with one id are joined, in order
abbrev pub joined : List ElementValue → List ElementValue
joined es = map (λ id. record { id = id; params = params_of id es }) (firsts (ids_of es))

abbrev pub converted_elements : List ElementValue → List ElementValue
converted_elements es = joined (map converted_element es)

-- ---- the message part

-- a space between two texts, where both are there
abbrev pub gap_between : Text → Text → Text
gap_between [] u = []
gap_between (c ∷ t) [] = []
gap_between (c ∷ t) (d ∷ u) = 32 ∷ []

-- what was left unparsed of the structured data, and then the message part
abbrev pub spaced_before : Text → Text → Text
spaced_before unparsed msg = unparsed ++ (gap_between unparsed msg ++ msg)

-- the message with that as its message part
abbrev pub whole : MessageValue → Text → MessageValue
whole m unparsed = record m { msg = spaced_before unparsed m.msg }

-- ---- messages

-- The message as RFC 5424 of version 1. Without a priority it has 13, `user` and `notice` (RFC 3164, section 4.3.3);
-- with one past 191 the facility `user`.
abbrev pub converted : MessageValue → MessageValue
converted m = record {
  protocol = RFC5424 1;
  facility = Some (unwrap_or m.facility LOG_USER);
  severity = Some (unwrap_or m.severity SEV_NOTICE);
  timestamp = option_and_then converted_stamp m.timestamp;
  hostname = option_and_then converted_host m.hostname;
  appname = option_and_then (converted_word 48) m.appname;
  procid = option_and_then converted_process m.procid;
  msgid = option_and_then (converted_word 32) m.msgid;
  structured_data = converted_elements m.structured_data;
  msg = m.msg;
}
