-- Lines of Cisco's systems. 32 is a space, 35 `#`, 36 `$`, 37 `%`, 42 `*`, 46 `.`.
--
-- Each ends in `%FACILITY-SEVERITY-MNEMONIC: text` ("System Message Format" in the guides of IOS, NX-OS and ASA).
-- Before it come, if the system is so configured: a counter, a sequence number, the host, the task (WLC), a mark, the
-- date, the host (ASA, FTD), and a unit (Dell's OS9, which writes as IOS does) or a virtual device (NX-OS). The mark
-- is `*` for a clock that was never set, and `.` for one that has lost its server. NX-OS has the year before the month.
use Rattle.std.specs.Prelude.{◌≡◌, ◌⊎◌, ◌||◌, ◌&&◌, ℕ, nat_eq, Bool, true, List, [], ◌∷◌, Option, Some, None}
use Rattle.std.specs.Prelude.{codes, not}
use Rattle.std.proofs.Common.{inl, inr}
use Rattle.std.specs.Option.{is_some}
use Rattle.std.specs.Char.{is_ascii_digit}
use Rattle.syslog_text.specs.Pieces.Class.{Text, Class, Values, Front, Row, run, some_run, exactly, rest, optional}
use Rattle.syslog_text.specs.Pieces.Class.{mapped}
use Rattle.syslog_text.specs.Pieces.Rules.{◌or◌, such_that}
use Rattle.syslog_text.specs.Text.{is_blank, colon}
use Rattle.syslog_pieces.specs.Timestamp.Rfc3339.{year}
use Rattle.syslog_dated_forms.specs.Address.{address}
use Rattle.syslog_sent.specs.Date.{any_date, in_year}
use Rattle.syslog_sent.specs.Named.{◌otherwise◌, BeginsWith, is_letter}
use Rattle.syslog_sent.specs.Runs.{is_plain_char}
use Rattle.syslog_sent.specs.Sent.{Form, SentValue, loose}
use Rattle.syslog_sent.specs.Zone.{bare_word}
use Rattle.syslog_sent.specs.declared.dialect.Dialect.TheVariants.{CiscoAsa, CiscoIos, CiscoNxOs}
use Rattle.syslog_sent.specs.declared.sent.SentDate.{SentDate}

-- ---- words

-- a letter or a digit
abbrev pub begins_host : ℕ → Bool
begins_host c = is_ascii_digit c || is_letter c

abbrev pub word_origin : Class
word_origin = such_that bare_word (BeginsWith begins_host)

abbrev pub host_of : Text ⊎ Text → Text
host_of (inl t) = t
host_of (inr t) = t

-- the name of a device: an address of IPv6, or a word up to its first colon
abbrev pub origin : Class
origin = mapped (address otherwise word_origin) Text host_of

-- `%`, or `#` (WLC of before 8.0), and then a letter
abbrev pub IsMnemonic : Text → Type 0
IsMnemonic [] = ⊥
IsMnemonic (c ∷ []) = ⊥
IsMnemonic (c ∷ d ∷ more) = ((nat_eq c 37 || nat_eq c 35) && is_letter d) ≡ true

-- one of the two
abbrev pub begins_mnemonic : ℕ → Bool
begins_mnemonic c = nat_eq c 37 || nat_eq c 35

-- neither of the two
abbrev pub is_unmarked : ℕ → Bool
is_unmarked c = not (nat_eq c 37) && not (nat_eq c 35)

abbrev pub mnemonic : Class
mnemonic = such_that bare_word IsMnemonic

-- ---- before the date

-- a counter or a sequence number, before a colon and blanks
abbrev pub counter_row : List Class
counter_row = some_run is_ascii_digit ∷ exactly colon ∷ some_run is_blank ∷ []

-- the host, before a colon and blanks
abbrev pub label_row : List Class
label_row = origin ∷ exactly colon ∷ some_run is_blank ∷ []

abbrev pub label : Class
label = mapped (Row label_row) Text (λ v. v.0)

-- `*`, the task, a colon and blanks
abbrev pub task_row : List Class
task_row = exactly (42 ∷ []) ∷ bare_word ∷ exactly colon ∷ some_run is_blank ∷ []

abbrev pub mark : Class
mark = exactly (42 ∷ []) or exactly (46 ∷ [])

abbrev pub start_row : List Class
start_row =
    run is_blank ∷ optional (exactly colon) ∷ run is_blank ∷ optional (Row counter_row) ∷ optional (Row counter_row)
    ∷ optional label ∷ optional (Row counter_row) ∷ optional (Row task_row) ∷ optional mark ∷ []

abbrev pub labelled : Values start_row → Option Text
labelled (_, (_, (_, (_, (_, (host, _)))))) = host

-- the host, where it comes before the date
abbrev pub start : Class
start = mapped (Row start_row) (Option Text) labelled

-- ---- the date

-- a year before blanks
abbrev pub front_year_row : List Class
front_year_row = year ∷ some_run is_blank ∷ []

abbrev pub front_year : Class
front_year = mapped (Row front_year_row) ℕ (λ v. v.0)

abbrev pub date_row : List Class
date_row = optional front_year ∷ any_date ∷ []

-- ---- after the date

-- a unit of Dell's OS9: `%STKUNIT0-M:CP `
abbrev pub dell_row : List Class
dell_row = some_run is_plain_char ∷ exactly colon ∷ some_run is_plain_char ∷ some_run is_blank ∷ []

-- the virtual device context of NX-OS: `%$ VDC-1 %$ `
abbrev pub context_row : List Class
context_row =
    exactly (36 ∷ []) ∷ exactly (32 ∷ []) ∷ some_run is_plain_char ∷ exactly (32 ∷ []) ∷ exactly (37 ∷ [])
    ∷ exactly (36 ∷ []) ∷ some_run is_blank ∷ []

abbrev pub unit_row : List Class
unit_row = exactly (37 ∷ []) ∷ (Row dell_row otherwise Row context_row) ∷ []

-- either, where a mnemonic may follow it
abbrev pub unit : Class
unit = record {
  Value = Values unit_row;
  Is = λ p q v. (Row unit_row).Is p q v × BeginsWith begins_mnemonic q;
}

abbrev pub place_row : List Class
place_row = run is_blank ∷ optional origin ∷ run is_blank ∷ optional (exactly colon) ∷ run is_blank ∷ optional unit ∷ []

-- the host, where it comes after the date
abbrev pub place : Class
place = mapped (Row place_row) (Option Text) (λ v. v.1.0)

abbrev pub message_row : List Class
message_row = mnemonic ∷ run is_blank ∷ exactly colon ∷ run is_blank ∷ rest ∷ []

-- ---- the line

abbrev pub cisco_row : List Class
cisco_row = start ∷ Row date_row ∷ place ∷ Row message_row ∷ []

-- the text begins as such a line does: what comes before the date, the date, and what is left
pub record IsDated (text : Text) (host : Option Text) (y : Option ℕ) (date : SentDate) (left : Text) : Type 0 where
  pub started : Text
  pub at_date : Text
  pub front : Front start text started host
  pub year : Front (optional front_year) started at_date y
  pub dated : Front any_date at_date left date

-- the host that comes first
abbrev pub either_host : Option Text → Option Text → Option Text
either_host (Some host) other = Some host
either_host None other = other

abbrev pub dated_in : Option ℕ → SentDate → SentDate
dated_in y d = record { date = in_year y d.date; nanosecond = d.nanosecond; offset = d.offset }

abbrev pub cisco_sent : Values cisco_row → SentValue
cisco_sent (host, ((y, (date, _)), (other, ((tag, (_, (_, (_, (msg, _))))), _)))) =
    loose (Some (dated_in y date)) (either_host host other) (Some tag) None msg

-- ---- the forms

-- the text begins with these words
abbrev pub Starts : Text → Text → Type 0
Starts words t = (q : Text) × Front (exactly words) t q tt

-- of ASA or of FTD, by the facility
abbrev pub IsAsaTag : Text → Type 0
IsAsaTag t = Starts (codes "%ASA-") t ⊎ Starts (codes "%FTD-") t

abbrev pub IsAsa : Values cisco_row → Type 0
IsAsa (_, (_, (_, ((tag, _), _)))) = IsAsaTag tag

-- the year is before the month
abbrev pub IsNxOs : Values cisco_row → Type 0
IsNxOs (_, ((y, _), _)) = is_some y ≡ true

abbrev pub asa_form : Form
asa_form = record {
  dialect = CiscoAsa;
  row = such_that (Row cisco_row) IsAsa ∷ [];
  Means = λ v sent. sent ≡ cisco_sent v.0;
}

abbrev pub nx_os_form : Form
nx_os_form = record {
  dialect = CiscoNxOs;
  row = such_that (Row cisco_row) IsNxOs ∷ [];
  Means = λ v sent. sent ≡ cisco_sent v.0;
}

abbrev pub ios_form : Form
ios_form = record { dialect = CiscoIos; row = cisco_row; Means = λ v sent. sent ≡ cisco_sent v }

-- those of lines with a date
abbrev pub cisco_forms : List Form
cisco_forms = asa_form ∷ nx_os_form ∷ ios_form ∷ []
