-- Which messages are chosen: this project's own choice.
use Rattle.std.specs.Prelude.{◌≡◌, ◌≤◌, None, Some, IfSome, IsSomeAnd}
use Rattle.std.specs.Str.{chars}
use Rattle.syslog_pieces.specs.Pri.{severity_number}
use Rattle.syslog_pieces.specs.declared.pri.SyslogSeverity.{SyslogSeverity}
use Rattle.syslog_loose.specs.Message.{MessageValue}
use Rattle.syslog_choice.specs.declared.Choice.{Choice}

-- the message has a severity, which is this one or worse
abbrev pub IsAsSevere : SyslogSeverity → MessageValue → Type 0
IsAsSevere least m = IsSomeAnd m.severity (λ severity. severity_number severity ≤ severity_number least)

-- the message has all that is given
pub record IsChosen (choice : Choice) (m : MessageValue) : Type 0 where
  pub severity : IfSome choice.severity (λ least. IsAsSevere least m)
  pub host : IfSome choice.host (λ name. m.hostname ≡ Some (chars name.now))
  pub app : IfSome choice.app (λ name. m.appname ≡ Some (chars name.now))

-- nothing is given
pub record IsEverything (choice : Choice) : Type 0 where
  pub severity : choice.severity ≡ None
  pub host : choice.host ≡ None
  pub app : choice.app ≡ None
