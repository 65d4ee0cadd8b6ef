-- The date that begins a line, as its readers are given it.
use Rattle.std.specs.Prelude.{◌≡◌, Option, MatchOption}
use Rattle.std.specs.Borrow.{Bor}
use Rattle.std.specs.Prelude.{List, ℕ}
use Rattle.syslog_text.specs.Pieces.Class.{Text, Front, NoFront, Row, run}
use Rattle.syslog_text.specs.Pieces.View.{shown}
use Rattle.syslog_text.specs.Text.{is_blank}
use Rattle.syslog_sent.specs.Date.{any_date, bsd_of, bsd_row, iso_date}
use Rattle.syslog_sent.specs.DateViews.{bsd_values}
use Rattle.syslog_sent.specs.declared.led.Led.{Led}
use Rattle.syslog_sent.specs.declared.led.LeadingDate.{LeadingDate}
use Rattle.syslog_sent.specs.declared.led.LeadingDate.TheVariants.{Month, Iso}
use Rattle.syslog_sent.specs.declared.sent.SentDate.{SentDate}

abbrev pub date_of : LeadingDate → SentDate
date_of (Month d) = bsd_of (bsd_values d)
date_of (Iso d) = d

-- the date begins the text, of which the rest is left; the text of one nearly of RFC 3339 begins with no month date
abbrev pub IsDate : LeadingDate → Text → Text → Type 0
IsDate (Month d) text rest = Front (Row bsd_row) text rest (bsd_values d)
IsDate (Iso d) text rest = NoFront (Row bsd_row) text × Front iso_date text rest d

-- what the reader of such a date returns
abbrev pub IsLeading : Text → Option (LeadingDate × Bor (List ℕ)) → Type 0
IsLeading text r = MatchOption r (NoFront any_date text) (λ x. IsDate x.0 text (shown x.1))

-- a line that begins with a date, after blanks or none
pub record IsLed (text : Text) (led : Led) : Type 0 where
  pub gap : Front (run is_blank) text (shown led.text) tt
  pub date : IsDate led.date (shown led.text) (shown led.rest)
  pub sent : led.sent ≡ date_of led.date

-- a line that begins with none
pub record IsUnled (text : Text) : Type 0 where
  pub begun : Text
  pub gap : Front (run is_blank) text begun tt
  pub undated : NoFront any_date begun

abbrev pub IsFront : Text → Option Led → Type 0
IsFront text r = MatchOption r (IsUnled text) (IsLed text)
