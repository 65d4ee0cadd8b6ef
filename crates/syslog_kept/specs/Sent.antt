-- What becomes of each character of a line in a dialect: the line's object has what the line says.
use Rattle.std.specs.Option.{option_map}
use Rattle.std.specs.Prelude.{◌≡◌, ◌⊎◌, [], ◌∷◌, Option, Some, None, chars, codes}
use Rattle.json.specs.Find.{get}
use Rattle.json.specs.Json.{Json}
use Rattle.syslog_text.specs.Pieces.Class.{Text}
use Rattle.syslog_pieces.specs.declared.timestamp.OffsetTimestamp.{OffsetTimestamp}
use Rattle.syslog_loose.specs.declared.dates.Dates.{Dates}
use Rattle.syslog_sent.specs.Dialect.{dialect_name}
use Rattle.syslog_dialects.specs.Found.{AreFound}
use Rattle.syslog_sent.specs.Sent.{SentValue}
use Rattle.syslog_dialects.specs.SentLine.{HasStamp as IsStampOf}
use Rattle.syslog_sent.specs.declared.dialect.Dialect.{Dialect}
use Rattle.syslog_sent.specs.declared.dialect.Dialect.TheVariants.{CheckPoint}
use Rattle.syslog_object.specs.Object.{number_json, text_json}
use Rattle.syslog_kept.specs.Kept.{HasStamp, priority, process}
use Rattle.syslog_kept.specs.Paired.{paired}
use Rattle.syslog_kept.specs.Part.{AreParts, blanks, maybe, text_at, white_space}

-- the object has this timestamp, or none
abbrev pub HasTime : Json → Option OffsetTimestamp → Type 0
HasTime o None = get (codes "timestamp") o ≡ None
HasTime o (Some stamp) = HasStamp o stamp

-- the object has the process that the text names, or none
abbrev pub HasNamed : Json → Option Text → Type 0
HasNamed o None = get (codes "procid") o ≡ None
HasNamed o (Some text) = process o text

-- The object has the message; or the message is Check Point's element, blanks, and what the object has.
abbrev pub HasMessage : Dialect → Json → Text → Type 0
HasMessage dialect o msg = text_at o (codes "message") msg
    ⊎ ((dialect ≡ CheckPoint) × AreParts (paired o ∷ blanks ∷ text_at o (codes "message") ∷ []) msg)

-- The object has what the line says, and lacks the keys of what it does not say. Its timestamp is that of the date.
pub record HasSaid (dates : Dates) (dialect : Dialect) (o : Json) (sent : SentValue) : Type 0 where
  pub version : get (codes "version") o ≡ option_map number_json sent.version
  pub stamp : Option OffsetTimestamp
  pub dated : IsStampOf dates sent.date stamp
  pub timestamp : HasTime o stamp
  pub hostname : get (codes "hostname") o ≡ option_map text_json sent.hostname
  pub appname : get (codes "appname") o ≡ option_map text_json sent.appname
  pub process : HasNamed o sent.process
  pub msgid : get (codes "msgid") o ≡ option_map text_json sent.msgid
  pub message : HasMessage dialect o sent.msg

-- The text is a priority or none, which the object has, and a text of which each character is accounted for, with white
-- space around them. The object names the dialect, and has what the line says.
pub record AccountsForSent (dates : Dates) (dialect : Dialect) (o : Json) (text : Text) : Type 0 where
  pub sent : SentValue
  pub named : get (codes "dialect") o ≡ Some (text_json (chars (dialect_name dialect)))
  pub has : HasSaid dates dialect o sent
  pub parts : AreParts (white_space ∷ maybe (priority o) ∷ (λ p. AreFound dialect p sent) ∷ white_space ∷ []) text
