-- What the readers of forms after a date return.
use Rattle.std.specs.Prelude.{List, Option, MatchOption}
use Rattle.syslog_text.specs.Pieces.Class.{Text, Front, Row}
use Rattle.syslog_sent.specs.Forms.{Finds, IsOfNone, IsOnlyOf}
use Rattle.syslog_named_forms.specs.NamedForms.{front_row, says}
use Rattle.syslog_sent.specs.Views.{named_value}
use Rattle.syslog_sent.specs.declared.named.Named.{Named}
use Rattle.syslog_sent.specs.Sent.{Form}
use Rattle.syslog_sent.specs.declared.dialect.Dialect.{Dialect}
use Rattle.syslog_sent.specs.declared.sent.Sent.{Sent}
use Rattle.syslog_sent.specs.declared.sent.SentDate.{SentDate}

-- what is found in a text that begins with this date: the dialect, and the names and the message after the date
abbrev pub FindsSaid : List Form → SentDate → Text → Option (Dialect × Named) → Type 0
FindsSaid Fs d text r = MatchOption r (IsOfNone Fs text) (λ x. IsOnlyOf Fs text x.0 (says d (named_value x.1)))

-- what a reader of such forms finds in what follows any date
abbrev pub FindsNamed : List Form → Text → Option (Dialect × Named) → Type 0
FindsNamed Fs rest r = (d : SentDate) (text : Text) → Front (Row front_row) text rest (tt, (d, (tt, tt)))
    → FindsSaid Fs d text r

-- what a reader finds in a text that begins with this date, of which the rest is left
abbrev pub FindsAfter : List Form → SentDate → Text → Text → Option (Dialect × Sent) → Type 0
FindsAfter Fs d rest text r = Front (Row front_row) text rest (tt, (d, (tt, tt))) → Finds Fs text r
