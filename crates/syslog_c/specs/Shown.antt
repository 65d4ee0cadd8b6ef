-- What a line shows of its date: whether a year, and whether an offset.
use Rattle.std.specs.Prelude.{◌≡◌, ◌⊎◌, ℕ, Bool, true, false, Option, Some, None}
use Rattle.syslog_text.specs.Pieces.Class.{Text as Chars}
use Rattle.syslog_pieces.specs.Timestamp.Zone.{Dating}
use Rattle.syslog_loose.specs.Message.{MessageValue}
use Rattle.syslog_loose.specs.DateForm.{HasDateForm}
use Rattle.syslog_loose.specs.declared.date_form.DateForm.{DateForm}
use Rattle.syslog_loose.specs.declared.date_form.DateForm.TheVariants.{Yearless, Dated, Whole}
use Rattle.syslog_dialects.specs.SentReading.{HasFlags}
use Rattle.syslog_sent.specs.declared.dialect.Dialect.{Dialect}
use Rattle.syslog_c.specs.declared.fields.Stamp.{Stamp}
use Rattle.syslog_c.specs.declared.rules.Rules.{Rules}

-- 1 where a date of this form shows a year
abbrev pub year_flag : DateForm → ℕ
year_flag Yearless = 0
year_flag Dated = 1
year_flag Whole = 1

-- 1 where it shows an offset
abbrev pub offset_flag : DateForm → ℕ
offset_flag Yearless = 0
offset_flag Dated = 0
offset_flag Whole = 1

-- they are the two flags of the date that the text shows
abbrev pub AreFlags : Chars → ℕ → ℕ → Type 0
AreFlags text year offset = (form : DateForm) × HasDateForm text form × (year ≡ year_flag form)
    × (offset ≡ offset_flag form)

-- the timestamp says what the text shows of it, and of an absent one that it shows nothing
abbrev pub IsShown : Chars → Stamp → Type 0
IsShown text s = ((s.present ≡ 0) × (s.shows_year ≡ 0) × (s.shows_offset ≡ 0))
    ⊎ ((s.present ≡ 1) × AreFlags text s.shows_year s.shows_offset)

-- a flag as a number
abbrev pub flag_number : Bool → ℕ
flag_number true = 1
flag_number false = 0

-- the timestamp says what the text shows of its date in this dialect
pub record IsShownSent (rules : Rules) (dating : Dating) (text : Chars) (dialect : Dialect) (m : MessageValue)
    (s : Stamp) : Type 0 where
  pub year : Bool
  pub offset : Bool
  pub flags : HasFlags rules.dates dating rules.variant text (Some dialect) m year offset
  pub shows_year : s.shows_year ≡ flag_number year
  pub shows_offset : s.shows_offset ≡ flag_number offset

-- the timestamp says what the text shows of its date, for a text that is read in a dialect or in none
abbrev pub IsShownIn : Rules → Dating → Chars → Option Dialect → MessageValue → Stamp → Type 0
IsShownIn rules dating text None m s = IsShown text s
IsShownIn rules dating text (Some dialect) m s = IsShownSent rules dating text dialect m s
