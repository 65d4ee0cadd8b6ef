-- The object of a line in a dialect has what the line says.
use Rattle.std.proofs.Common.{◌≡◌, ◌∙◌, inl, inr, Bool, List, [], ◌∷◌, Option, Some, None}
use Rattle.std.proofs.Common.{refl, sym, ap, subst, append-nil}
use Rattle.std.specs.Option.{option_map}
use Rattle.std.specs.Prelude.{ℕ, codes}
use Rattle.json.specs.Find.{get}
use Rattle.json.specs.Json.{Json}
use Rattle.syslog_text.specs.Pieces.Class.{Division, Text}
use Rattle.syslog_elements.specs.StructuredData.Element.{ElementValue}
use Rattle.syslog_pieces.specs.ProcId.{named_process, procid_text}
use Rattle.syslog_pieces.specs.declared.timestamp.OffsetTimestamp.{OffsetTimestamp}
use Rattle.syslog_pieces.proofs.ProcIdLemmas.{named_names}
use Rattle.syslog_loose.specs.Line.{protocol_of}
use Rattle.syslog_loose.specs.Message.{MessageValue}
use Rattle.syslog_loose.specs.declared.dates.Dates.{Dates}
use Rattle.syslog_sent.specs.Dialect.{dialect_text}
use Rattle.syslog_dialects.specs.Found.{AreFound}
use Rattle.syslog_dialects.specs.Paired.{IsOpened, opened_row, with_list}
use Rattle.syslog_dialects.specs.SentLine.{sent_message}
use Rattle.syslog_dialects.specs.SentReading.{IsSentIn}
use Rattle.syslog_sent.specs.declared.dialect.Dialect.{Dialect}
use Rattle.syslog_dialects.proofs.FoundLemmas.{said_found}
use Rattle.syslog_object.specs.Object.{Beside, beside_line, message_json, number_json, text_json, timestamp_json}
use Rattle.syslog_object.specs.Object.{version_json}
use Rattle.syslog_kept.specs.Kept.{priority}
use Rattle.syslog_kept.specs.Part.{maybe}
use Rattle.syslog_kept.specs.Sent.{AccountsForSent, HasMessage, HasNamed, HasTime}
use Rattle.syslog_kept.proofs.KeptLemmas.{priority_part, stamp_there}
use Rattle.syslog_kept.proofs.ObjectLemmas.{appname_at, dialect_at, elements_at, facility_at, hostname_at, message_at}
use Rattle.syslog_kept.proofs.ObjectLemmas.{msgid_at}
use Rattle.syslog_kept.proofs.ObjectLemmas.{procid_at, severity_at, timestamp_at, version_at}
use Rattle.syslog_kept.proofs.PairedLemmas.{opened_parts}
use Rattle.syslog_kept.proofs.PartLemmas.{around}

version_there : (v : Option ℕ) → version_json (protocol_of v) ≡ option_map number_json v
version_there None = refl
version_there (Some n) = refl

time_there : (o : Json) (stamp : Option OffsetTimestamp)
    → get (codes "timestamp") o ≡ option_map timestamp_json stamp → HasTime o stamp
time_there o None there = there
time_there o (Some s) there = stamp_there o s there

process_there : (o : Json) (t : Option Text)
    → get (codes "procid") o ≡ option_map (λ p. text_json (procid_text p)) (option_map named_process t) → HasNamed o t
process_there o None there = there
process_there o (Some t) there = (named_process t, named_names t, there)

pub sent_accounts : (dates : Dates) (is_read : Bool) (text : Text) (dialect : Dialect) (m : MessageValue)
    (raw : Option Text) → IsSentIn dates is_read text dialect m
    → AccountsForSent dates dialect (message_json m (beside_line (dialect_text (Some dialect)) [] raw)) text
sent_accounts dates is_read text dialect m raw is = by_opened is.opened
  where
    b : Beside
    b = beside_line (dialect_text (Some dialect)) [] raw

    -- what the form says, with these elements and this message part
    accounts : (es : List ElementValue) (msg : Text)
        → HasMessage dialect (message_json (with_list (sent_message is.priority is.says.0 is.sent) es msg) b)
        is.sent.msg
        → AccountsForSent dates dialect (message_json (with_list (sent_message is.priority is.says.0 is.sent) es msg) b)
        text
    accounts es msg has =
        let found = said_found is_read is.priority is.follows dialect is.sent is.form.first in
        let made : MessageValue = with_list (sent_message is.priority is.says.0 is.sent) es msg in
        let o : Json = message_json made b in
        record {
          sent = is.sent;
          named = dialect_at made b;
          has = record {
            version = version_at made b ∙ version_there is.sent.version;
            stamp = is.says.0;
            dated = is.says.1;
            timestamp = time_there o is.says.0 (timestamp_at made b);
            hostname = hostname_at made b;
            appname = appname_at made b;
            process = process_there o is.sent.process (procid_at made b);
            msgid = msgid_at made b;
            message = has;
          };
          parts = around (maybe (priority o) ∷ (λ p. AreFound dialect p is.sent) ∷ []) text (
            is.front.piece,
            is.follows,
            is.front.whole,
            priority_part o is.front.piece is.follows is.priority (facility_at made b) (severity_at made b) is.front.is,
            (is.follows, [], sym (append-nil is.follows), found, refl),
          );
        }

    by_opened : IsOpened dialect is.whole m → AccountsForSent dates dialect (message_json m b) text
    by_opened (inr (never, same)) =
        let made = sent_message is.priority is.says.0 is.sent in
        subst (λ (x : MessageValue). AccountsForSent dates dialect (message_json x b) text) (sym (same ∙ is.says.2))
        (accounts [] is.sent.msg (inl (message_at made b)))
    by_opened (inl (is_it, it)) =
        let made = with_list (sent_message is.priority is.says.0 is.sent) it.elements it.msg in
        let division = subst (λ (x : MessageValue). Division opened_row x.msg (it.elements, (tt, (it.msg, tt))))
        is.says.2 it.division in
        subst (λ (x : MessageValue). AccountsForSent dates dialect (message_json x b) text)
        (sym (it.same ∙ ap (λ (w : MessageValue). with_list w it.elements it.msg) is.says.2))
        (accounts it.elements it.msg (inr (
          is_it,
          opened_parts (message_json made b) is.sent.msg it.msg it.elements
              (elements_at made b) (message_at made b) division,
        )))
