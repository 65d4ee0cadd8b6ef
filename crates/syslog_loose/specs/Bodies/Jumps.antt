-- Rounds whose texts are known before they are read: those in which a host loses a colon each time, and those in which
-- a message part loses a dash. (All of it is this project's own.)
use Rattle.std.specs.{List.repeat, Prelude.◌≡◌, Prelude.◌<◌, Prelude.◌∷◌, Prelude.◌++◌}
use Rattle.syslog_loose.specs.Words.{ℕ, zero, suc, List, [], length, Some, None, IfSome, Text, Each, Ends, facility_of}
use Rattle.syslog_loose.specs.Words.{severity_of, ElementValue, is_blank, EndsInColon, IsCanonicalStamp, colon}
use Rattle.syslog_elements.specs.StructuredData.Element.{joined_elements}
use Rattle.syslog_loose.specs.{Message.MessageValue, Printed.priority_of, declared.message.Protocol.TheVariants.RFC3164}
use Rattle.syslog_loose.specs.Rfc3164.{Names3164, names}

-- ---- a host that ends in colons

abbrev pub colons : ℕ → Text
colons n = repeat n colon

-- n times ` :`, and then the text
abbrev pub colons_before : ℕ → Text → Text
colons_before n t = repeat n (32 ∷ 58 ∷ []) ++ t

-- a space and the message part, or nothing where that is empty
unfoldable pub message_end : Text → Text
message_end [] = []
message_end (c ∷ cs) = 32 ∷ c ∷ cs

-- what trimming leaves of the elements and the message part that are printed after the colon of the names
abbrev pub tail_text : List ElementValue → Text → Text
tail_text [] msg = message_end msg
tail_text (e ∷ es) msg = 32 ∷ (joined_elements (e ∷ es) ++ message_end msg)

-- the message with these names and this message part, as it is read back: without elements
abbrev pub read_with : MessageValue → Names3164 → Text → MessageValue
read_with m n text = record {
  protocol = RFC3164;
  facility = facility_of (priority_of m);
  severity = severity_of (priority_of m);
  timestamp = m.timestamp;
  hostname = n.hostname;
  appname = n.appname;
  procid = n.procid;
  msgid = None;
  structured_data = [];
  msg = text;
}

-- the message that the n-th reading makes of one whose host ends in colons: n + 1 colons fewer, which are in the
-- message part before what was printed there
abbrev pub past_colons : MessageValue → Text → ℕ → MessageValue
past_colons m host n =
    read_with m (names (Some host) None None) (58 ∷ colons_before n (tail_text m.structured_data m.msg))

-- The message has a timestamp that its print has too, and this is its host, less n colons at its end, of which it keeps
-- one.
pub record EndsColons (m : MessageValue) (host : Text) (n : ℕ) : Type 0 where
  pub timestamp : IfSome m.timestamp IsCanonicalStamp
  pub hostname : m.hostname ≡ Some (host ++ colons n)
  pub keeps : EndsInColon host

-- the host is the name, both texts or bytes, less n colons at its end, of which it keeps one where n is not 0
pub record CutsColons (name host : List ℕ) (n : ℕ) : Type 0 where
  pub whole : name ≡ host ++ colons n
  pub keeps : 0 < n → EndsInColon host

-- ---- a message part of dashes

-- the text is a dash, blanks and then this, which begins with no blank
pub record IsDashed (text after : Text) : Type 0 where
  pub blanks : Text
  pub whole : text ≡ 45 ∷ (blanks ++ after)
  pub some : 0 < length blanks
  pub each : Each is_blank blanks
  pub no_more : Ends is_blank after

-- n dashes, each with the blanks after it, are skipped, and a further one with blanks after it follows
abbrev pub PassesDashes : ℕ → Text → Text → Type 0
PassesDashes zero text after = after ≡ text
PassesDashes (suc n) text after = (before : Text) × PassesDashes n text before × IsDashed before after × (next : Text)
    × IsDashed after next

-- the message with this message part
abbrev pub with_msg : MessageValue → Text → MessageValue
with_msg m text = record m { msg = text }
