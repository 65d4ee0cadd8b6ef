-- What a line says, but for its priority, and the forms that say it: each is a row of pieces and what they mean.
use Rattle.std.specs.Prelude.{◌≡◌, ℕ, List, Option, None, MatchOption}
use Rattle.syslog_text.specs.Pieces.Class.{Text, Class, Values, Division, NoDivision}
use Rattle.syslog_text.specs.Pieces.View.{seen, shown}
use Rattle.syslog_sent.specs.declared.dialect.Dialect.{Dialect}
use Rattle.syslog_sent.specs.declared.sent.Sent.{Sent}
use Rattle.syslog_sent.specs.declared.sent.SentDate.{SentDate}

pub record SentValue : Type 0 where
  pub version : Option ℕ
  pub date : Option SentDate
  pub hostname : Option Text
  pub appname : Option Text
  pub process : Option Text
  pub msgid : Option Text
  pub msg : Text

-- what a line says without a version of RFC 5424
abbrev pub loose : Option SentDate → Option Text → Option Text → Option Text → Text → SentValue
loose date hostname appname process msg = record {
  version = None;
  date = date;
  hostname = hostname;
  appname = appname;
  process = process;
  msgid = None;
  msg = msg;
}

abbrev pub sent_value : Sent → SentValue
sent_value s = record {
  version = s.version;
  date = s.date;
  hostname = seen s.hostname;
  appname = seen s.appname;
  process = seen s.process;
  msgid = seen s.msgid;
  msg = shown s.msg;
}

-- A form of lines, from after the priority on: its dialect, its pieces, the last of which is the rest, and what they
-- mean.
pub record Form : Type 1 where
  pub dialect : Dialect
  pub row : List Class
  pub Means : Values row → SentValue → Type 0

-- the text is divided into the pieces of the form, and they mean this
pub record IsSent (F : Form) (text : Text) (sent : SentValue) : Type 0 where
  pub values : Values F.row
  pub division : Division F.row text values
  pub means : F.Means values sent

-- and nothing else
pub record IsOnlySent (F : Form) (text : Text) (sent : SentValue) : Type 0 where
  pub says : IsSent F text sent
  pub only : (other : SentValue) → IsSent F text other → other ≡ sent

-- what a reader of a form returns: what the whole text says, or nothing where it is not of the form
abbrev pub Sends : Form → Text → Option Sent → Type 0
Sends F text r = MatchOption r (NoDivision F.row text) (λ s. IsOnlySent F text (sent_value s))
