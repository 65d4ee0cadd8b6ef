-- What it is to read a text, by which protocol and in which year, and what the reading calls return.
use Rattle.std.specs.Prelude.{◌≡◌, ◌⊎◌, ◌<◌, ◌≤◌, ◌^◌}
use Rattle.syslog_loose.specs.Words.{⊤, ℕ, ℤ, List, [], Option, Some, None, Result, MatchResult, Bor, AllocError, Text}
use Rattle.syslog_loose.specs.Words.{shown, Dating, DashRule, BeforeBlank, MonthDate, UTC, yearless_date, ShowsOf}
use Rattle.syslog_loose.specs.declared.{fault.ParseFault.ParseFault, message.Message.Message, variant.Variant.Variant}
use Rattle.syslog_loose.specs.declared.fault.ParseFault.TheVariants.{Invalid, Memory}
use Rattle.syslog_loose.specs.declared.variant.Variant.TheVariants.{Either, RFC3164, RFC5424}
use Rattle.syslog_loose.specs.Message.{MessageValue, message_of_parts, message_value}
use Rattle.syslog_loose.specs.Rfc3164.{IsRead3164, Quotes3164}
use Rattle.syslog_loose.specs.Rfc5424.{IsRead5424, IsNot5424, Quotes5424}
use Rattle.syslog_loose.specs.declared.message.Protocol.TheVariants as protocol

-- ---- reading a text, its dates taken so

-- before which texts a dash is a list of RFC 3164: at the end and before a blank
abbrev pub dash_rule : DashRule
dash_rule = BeforeBlank

-- the text is read as the message under this rule, and under `Either` as RFC 3164 only where RFC 5424 has no division
abbrev pub IsReadUnder : DashRule → Variant → Dating → Text → MessageValue → Type 0
IsReadUnder rule RFC5424 dating text m = IsRead5424 text m
IsReadUnder rule RFC3164 dating text m = IsRead3164 rule dating text m
IsReadUnder rule Either dating text m = IsRead5424 text m ⊎ (IsNot5424 text × IsRead3164 rule dating text m)

-- the text is read as the message
abbrev pub IsRead : Variant → Dating → Text → MessageValue → Type 0
IsRead variant dating text m = IsReadUnder dash_rule variant dating text m

-- there is no message as which the text is read
abbrev pub IsUnreadable : Variant → Dating → Text → Type 0
IsUnreadable variant dating text = (m : MessageValue) → IsRead variant dating text m → ⊥

-- the text is read as this message, and as no other
pub record IsOnlyRead (variant : Variant) (dating : Dating) (text : Text) (m : MessageValue) : Type 0 where
  pub read : IsRead variant dating text m
  pub only : (n : MessageValue) → IsRead variant dating text n → n ≡ m

-- the text is read as the message, each text of which is a piece of the division, or a part of one
abbrev pub IsQuoted : Variant → Dating → Text → MessageValue → Type 0
IsQuoted RFC5424 dating text m = Quotes5424 text m
IsQuoted RFC3164 dating text m = Quotes3164 dash_rule dating text m
IsQuoted Either dating text m = Quotes5424 text m ⊎ (IsNot5424 text × Quotes3164 dash_rule dating text m)

-- the text does not parse, or its message has no elements: there is no list, or `-`, or broken elements alone
abbrev pub NeedsNoMemory : Variant → Dating → Text → Type 0
NeedsNoMemory variant dating text = (m : MessageValue) → IsRead variant dating text m → m.structured_data ≡ []

-- ---- the year and the zones of a call

-- in this year, dates without an offset being in UTC
abbrev pub in_utc : ℤ → Dating
in_utc year = record { year = Some year; zone = None; local = UTC }

-- month, day, hour, minute and second of a date without a year, as the closure takes them
abbrev pub IncompleteDate : Type 0
IncompleteDate = ℕ × ℕ × ℕ × ℕ × ℕ

-- the closure that gives years may be called on each date of one of twelve months, whose numbers have 32 bits
abbrev pub AnswersEachMonth : (IncompleteDate → Type 0) → Type 0
AnswersEachMonth pre = (d : IncompleteDate)
    → (1 ≤ d.0) × (d.0 ≤ 12) × (d.1 < 2 ^ 32) × (d.2 < 2 ^ 32) × (d.3 < 2 ^ 32) × (d.4 < 2 ^ 32) → pre d

-- the text shows this date without a year, and the variant reads such dates
abbrev pub AsksYear : Variant → Text → MonthDate → Type 0
AsksYear RFC5424 text date = ⊥
AsksYear RFC3164 text date = ShowsOf yearless_date text date
AsksYear Either text date = ShowsOf yearless_date text date

-- this is the year that the closure returned: none if the text asks for no year
abbrev pub IsYearAnswered : (IncompleteDate → ℤ → Type 0) → Variant → Text → Option ℤ → Type 0
IsYearAnswered post variant text None = (date : MonthDate) → AsksYear variant text date → ⊥
IsYearAnswered post variant text (Some year) = (date : MonthDate) × AsksYear variant text date
    × post (date.month, date.day, date.hour, date.minute, date.second) year

-- This holds in the year that the closure returned, and in any year if the text asks for none.
pub record InYear (post : IncompleteDate → ℤ → Type 0) (variant : Variant) (text : Text)
    (Holds : Option ℤ → Type 0) : Type 0 where
  pub answered : Option ℤ
  pub is_answered : IsYearAnswered post variant text answered
  pub holds : (year : Option ℤ) → ((date : MonthDate) → AsksYear variant text date → year ≡ answered) → Holds year

-- ---- what the exact calls return

-- `Invalid` only for a text that does not parse, and `Memory` only for one whose message has elements
abbrev pub IsFault : Variant → Dating → Text → ParseFault → Type 0
IsFault variant dating text Invalid = IsUnreadable variant dating text
IsFault variant dating text Memory = NeedsNoMemory variant dating text → ⊥

-- the one message as which the text is read, or a fault
abbrev pub Answers : Variant → Dating → Text → Result (Message (Bor (List ℕ))) ParseFault → Type 0
Answers variant dating text result = MatchResult result
    (λ m. IsOnlyRead variant dating text (message_value (λ s. shown s) m)) (λ fault. IsFault variant dating text fault)

-- the text is read as RFC 3164 says, if at all
abbrev pub IsLeftTo3164 : Variant → Text → Type 0
IsLeftTo3164 RFC5424 text = ⊥
IsLeftTo3164 RFC3164 text = ⊤
IsLeftTo3164 Either text = IsNot5424 text

-- ---- what the calls with a fallback return

-- the message for a text that does not parse: the whole of it, as it was handed in
abbrev pub fallback : Text → MessageValue
fallback text = message_of_parts protocol.RFC3164 None None None None None None [] text

-- the one message as which the text is read, or the fallback where there is none
abbrev pub IsReadOrWhole : Variant → Dating → Text → MessageValue → Type 0
IsReadOrWhole variant dating text m = IsOnlyRead variant dating text m
    ⊎ (IsUnreadable variant dating text × (m ≡ fallback text))

-- that message, or the fault of a failed allocation, only for a text whose message has elements
abbrev pub AnswersOrWhole : Variant → Dating → Text → Result (Message (Bor (List ℕ))) AllocError → Type 0
AnswersOrWhole variant dating text result = MatchResult result
    (λ m. IsReadOrWhole variant dating text (message_value (λ s. shown s) m))
    (λ _. NeedsNoMemory variant dating text → ⊥)

-- For callers: the text does not parse, and this holds, or this holds of the one message as which it is read.
abbrev pub OnReading : Variant → Dating → Text → Type 0 → (MessageValue → Type 0) → Type 0
OnReading variant dating text Otherwise Holds = (IsUnreadable variant dating text × Otherwise)
    ⊎ ((m : MessageValue) × IsOnlyRead variant dating text m × Holds m)
