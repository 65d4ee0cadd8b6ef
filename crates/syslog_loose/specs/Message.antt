-- Messages as values over texts: what clauses compare.
use Rattle.std.specs.Prelude.{◌∷◌, ◌++◌}
use Rattle.syslog_loose.specs.Words.{ℕ, List, [], Option, map, flat_map, option_and_then, option_map, Text}
use Rattle.syslog_loose.specs.Words.{ElementValue, element_value, facility_of, severity_of, procid_value, ProcId}
use Rattle.syslog_loose.specs.Words.{OffsetTimestamp, element_texts, text_list, process_texts}
use Rattle.syslog_pieces.specs.declared.pri.{SyslogFacility.SyslogFacility, SyslogSeverity.SyslogSeverity}
use Rattle.syslog_loose.specs.declared.message.{Message.Message, Protocol.Protocol}

-- a message, each text of it as a list of characters
pub record MessageValue : Type 0 where
  pub protocol : Protocol
  pub facility : Option SyslogFacility
  pub severity : Option SyslogSeverity
  pub timestamp : Option OffsetTimestamp
  pub hostname : Option Text
  pub appname : Option Text
  pub procid : Option (ProcId Text)
  pub msgid : Option Text
  pub structured_data : List ElementValue
  pub msg : Text

-- the message over texts of one over S
abbrev pub message_value : {S : Type 0} → (S → Text) → Message S → MessageValue
message_value text m = record {
  protocol = m.protocol;
  facility = m.facility;
  severity = m.severity;
  timestamp = m.timestamp;
  hostname = option_map text m.hostname;
  appname = option_map text m.appname;
  procid = option_map (procid_value text) m.procid;
  msgid = option_map text m.msgid;
  structured_data = map (element_value text) m.structured_data.items;
  msg = text m.msg;
}

-- the message of these parts; a priority gives facility and severity
abbrev pub message_of_parts : Protocol → Option ℕ → Option OffsetTimestamp → Option Text → Option Text
    → Option (ProcId Text) → Option Text → List ElementValue → Text → MessageValue
message_of_parts protocol pri stamp host app process id elements msg = record {
  protocol = protocol;
  facility = option_and_then facility_of pri;
  severity = option_and_then severity_of pri;
  timestamp = stamp;
  hostname = host;
  appname = app;
  procid = process;
  msgid = id;
  structured_data = elements;
  msg = msg;
}

-- the message with these elements
abbrev pub with_elements : MessageValue → List ElementValue → MessageValue
with_elements m es = record m { structured_data = es }

-- all texts of a message
abbrev pub message_texts : MessageValue → List Text
message_texts m =
    text_list m.hostname ++ (text_list m.appname ++ (process_texts m.procid ++ (text_list m.msgid
    ++ (flat_map element_texts m.structured_data ++ (m.msg ∷ [])))))
