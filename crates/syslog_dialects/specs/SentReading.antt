-- How a text is read as its sender meant it: in a dialect, or as the port reads it.
use Rattle.std.specs.Prelude.{◌≡◌, ◌⊎◌, ◌||◌, ◌&&◌, ℕ, Bool, true, false, nat_eq, nat_le, IsTrue, List, [], ◌∷◌, Option}
use Rattle.std.specs.Prelude.{Some}
use Rattle.std.specs.Prelude.{None}
use Rattle.std.specs.Prelude.{MatchOption, is_some}
use Rattle.std.specs.Char.{is_ascii_digit}
use Rattle.syslog_text.specs.Pieces.Class.{Text}
use Rattle.syslog_elements.specs.StructuredData.Visited.{Visits, list_elements, list_text}
use Rattle.syslog_elements.specs.StructuredData.Element.{ElementValue}
use Rattle.syslog_text.specs.Text.{trimmed}
use Rattle.syslog_pieces.specs.Timestamp.Zone.{Dating}
use Rattle.syslog_loose.specs.Bodies.Start.{IsAfterPriority}
use Rattle.syslog_loose.specs.Line.{KnowsForm, line_value}
use Rattle.syslog_loose.specs.Message.{MessageValue}
use Rattle.syslog_loose.specs.Reading.{IsOnlyRead, IsUnreadable}
use Rattle.syslog_loose.specs.Unparsed.{Leaves}
use Rattle.syslog_loose.specs.Visit.{IsLineOf}
use Rattle.syslog_loose.specs.declared.dates.Dates.{Dates}
use Rattle.syslog_loose.specs.declared.line.Line.{Line}
use Rattle.syslog_loose.specs.declared.variant.Variant.{Variant}
use Rattle.syslog_loose.specs.declared.variant.Variant.TheVariants.{Either}
use Rattle.syslog_sent.specs.Forms.{IsOnlyOf}
use Rattle.syslog_dialects.specs.Dialects.{forms_of}
use Rattle.syslog_sent.specs.Named.{is_letter}
use Rattle.syslog_dialects.specs.Note.{IsNote}
use Rattle.syslog_dialects.specs.Ordinary.{IsOrdinary}
use Rattle.syslog_dialects.specs.Paired.{IsOpened}
use Rattle.syslog_sent.specs.Sent.{SentValue}
use Rattle.syslog_dialects.specs.SentLine.{IsMessageSent}
pub use Rattle.syslog_sent.specs.Zone.{is_capital}
use Rattle.syslog_sent.specs.declared.dialect.Dialect.{Dialect}
use Rattle.syslog_sent.specs.declared.sent.SentDate.{SentDate}
use Rattle.syslog_dialects.specs.declared.visit.Instead.{Instead}
use Rattle.syslog_dialects.specs.declared.visit.Instead.TheVariants.{Kept, Note, Sent}
use Rattle.syslog_dialects.specs.declared.visit.SentLine.{SentLine}

-- the dialects are asked: they are wanted, and either protocol is read
abbrev pub AreAsked : Bool → Variant → Type 0
AreAsked dialects variant = IsTrue dialects × (variant ≡ Either)

-- ---- how a text of a dialect may begin

-- `%`, `*`, `.`, `:` or `[`
abbrev pub is_mark : ℕ → Bool
is_mark c = nat_eq c 37 || (nat_eq c 42 || (nat_eq c 46 || (nat_eq c 58 || nat_eq c 91)))

-- a mark, a digit, `<`, a capital letter, `d`, `i` or `t`
abbrev pub begins : ℕ → Bool
begins c = (is_mark c || (is_ascii_digit c || nat_eq c 60)) || (is_capital
    c || (nat_eq c 100 || (nat_eq c 105 || nat_eq c 116)))

-- white space or a digit
abbrev pub is_gap_or_digit : ℕ → Bool
is_gap_or_digit c = nat_le c 32 || is_ascii_digit c

-- after a digit: a digit and another, `/` or `:`; white space and more of it or a digit; `:` and white space; `/` and a
-- digit or a capital letter
abbrev pub follows_digit : ℕ → ℕ → Bool
follows_digit d e =
    ((is_ascii_digit d && (is_ascii_digit e || (nat_eq e 47 || nat_eq e 58))) || (nat_le d 32 && is_gap_or_digit e))
    || ((nat_eq d 58 && nat_le e 32) || (nat_eq d 47 && (is_ascii_digit e || is_capital e)))

-- after a mark: white space and more of it, a digit, a capital letter or a mark; a digit and another, `.` or `:`; a
-- capital letter and a letter
abbrev pub follows_mark : ℕ → ℕ → Bool
follows_mark d e =
    (nat_le d 32 && (is_gap_or_digit e || (is_capital e || is_mark e)))
    || ((is_ascii_digit d && (is_ascii_digit e || (nat_eq e 46 || nat_eq e 58))) || (is_capital d && is_letter e))

-- `<` and a digit, and another or `>`; or a capital letter and a letter, and another or `/`
abbrev pub begins_otherwise : ℕ → ℕ → ℕ → Bool
begins_otherwise c d e =
    (nat_eq c 60 && (is_ascii_digit d && (is_ascii_digit e || nat_eq e 62)))
    || (is_capital c && (is_letter d && (is_letter e || nat_eq e 47)))

-- `dat`, `dev`, `id=` or `tim`, as in the names of pairs
abbrev pub begins_key : ℕ → ℕ → ℕ → Bool
begins_key c d e =
    (nat_eq c 100 && ((nat_eq d 97 && nat_eq e 116) || (nat_eq d 101 && nat_eq e 118)))
    || ((nat_eq c 105 && (nat_eq d 100 && nat_eq e 61)) || (nat_eq c 116 && (nat_eq d 105 && nat_eq e 109)))

abbrev pub begin_so : ℕ → ℕ → ℕ → Bool
begin_so c d e =
    ((is_ascii_digit c && follows_digit d e) || (is_mark c && follows_mark d e))
    || (begins_otherwise c d e || begins_key c d e)

-- what follows the first character
abbrev pub GoesOn : ℕ → Text → Type 0
GoesOn c (d ∷ e ∷ more) = IsTrue (begin_so c d e)
GoesOn c more = ⊥

-- the text, without the white space at its ends, begins with a priority, a date, a counter, a mark or a name of theirs
abbrev pub MayBegin : Text → Type 0
MayBegin text = (c : ℕ) × (more : Text) × (trimmed text ≡ c ∷ more) × (IsTrue (begins c) × GoesOn c more)

-- ---- the reading

-- The text is left to the dialects: one may begin it, and the port reads a line that is not ordinary, or none.
abbrev pub IsLeft : Variant → Dating → Text → Bool → Type 0
IsLeft variant dating text true =
    ((line : Line) × IsLineOf variant dating text line × (IsOrdinary line → ⊥)) × MayBegin text
IsLeft variant dating text false = IsUnreadable variant dating text × MayBegin text

-- The trimmed text is a priority or none, and a text of this dialect alone, and this is its message: what the form
-- says, but for Check Point's element. Whether the port reads the text says which forms are tried.
pub record IsSentIn (dates : Dates) (is_read : Bool) (text : Text) (dialect : Dialect) (m : MessageValue) : Type 0 where
  pub priority : Option ℕ
  pub follows : Text
  pub sent : SentValue
  pub front : IsAfterPriority (trimmed text) priority follows
  pub form : IsOnlyOf (forms_of is_read priority) follows dialect sent
  pub whole : MessageValue
  pub says : IsMessageSent dates priority sent whole
  pub opened : IsOpened dialect whole m

-- the text is of no dialect, or its date does not exist
abbrev pub IsInNone : Dates → Bool → Text → Type 0
IsInNone dates is_read text = (dialect : Dialect) (m : MessageValue) → IsSentIn dates is_read text dialect m → ⊥

-- the text is a line that journalctl writes between messages, and the port reads a line of it that is not ordinary
abbrev pub IsNoted : Variant → Dating → Text → Type 0
IsNoted variant dating text =
    ((line : Line) × IsLineOf variant dating text line × (IsOrdinary line → ⊥)) × IsNote text

-- the port's reading is kept: the text is of no dialect, and no line that is written between messages
abbrev pub Stands : Dates → Dating → Bool → Variant → Text → Type 0
Stands dates dating dialects variant text = AreAsked dialects variant
    → ((is_read : Bool) → IsLeft variant dating text is_read → IsInNone dates is_read text)
    × (IsNoted variant dating text → ⊥)

-- the text is read as this message: as the port reads it, or in a dialect
abbrev pub IsReadSent : Dates → Dating → Bool → Variant → Text → Option Dialect → MessageValue → Type 0
IsReadSent dates dating dialects variant text None m =
    IsOnlyRead variant dating text m × Stands dates dating dialects variant text
IsReadSent dates dating dialects variant text (Some dialect) m = AreAsked dialects variant
    × ((is_read : Bool) × IsLeft variant dating text is_read × IsSentIn dates is_read text dialect m)

-- the text is no message: the port does not parse it, and it is of no dialect; or it is a line between messages
abbrev pub IsUnsent : Dates → Dating → Bool → Variant → Text → Type 0
IsUnsent dates dating dialects variant text =
    (IsUnreadable variant dating text × Stands dates dating dialects variant text)
    ⊎ (AreAsked dialects variant × IsNoted variant dating text)

-- this is left unparsed of the text's structured data: nothing in a dialect
abbrev pub LeavesSent : Option Dialect → Variant → Text → Text → Type 0
LeavesSent None variant text unparsed = Leaves variant text unparsed
LeavesSent (Some dialect) variant text unparsed = unparsed ≡ []

-- what the reading of a text gives
abbrev pub IsSentAnswer : Dates → Dating → Bool → Variant → Text → Option SentLine → Type 0
IsSentAnswer dates dating dialects variant text result = MatchOption result
    (IsUnsent dates dating dialects variant text)
    (λ it. IsReadSent dates dating dialects variant text it.dialect (line_value it.line))

-- the line has these elements of the port's line; or it is of a dialect, and the port's has none
abbrev pub HasElementsOf : SentLine → List ElementValue → Type 0
HasElementsOf it es = MatchOption it.dialect (list_elements it.line.list ≡ es) (λ _. es ≡ [])

-- a visitor was given the elements of the line, if that is of a dialect
abbrev pub GivesOwn : {V : Type 0} → (V → V → List ElementValue → Type 0) → V → SentLine → V → Type 0
GivesOwn was_given old it new =
    MatchOption it.dialect (new ≡ old) (λ _. Visits was_given old (list_elements it.line.list) new)

-- whether the date shows its year, and its offset
abbrev pub shows_year : Option SentDate → Bool
shows_year None = false
shows_year (Some date) = is_some date.date.year

abbrev pub shows_offset : Option SentDate → Bool
shows_offset None = false
shows_offset (Some date) = is_some date.offset

-- The two flags are those of the date that the text shows in this dialect. Of the port's line none is set.
abbrev pub HasFlags : Dates → Dating → Variant → Text → Option Dialect → MessageValue → Bool → Bool → Type 0
HasFlags dates dating variant text None m year offset = (year ≡ false) × (offset ≡ false)
HasFlags dates dating variant text (Some dialect) m year offset = (is_read : Bool)
    × IsLeft variant dating text is_read × ((is : IsSentIn dates is_read text dialect m)
    × (year ≡ shows_year is.sent.date) × (offset ≡ shows_offset is.sent.date))

-- the line has the flags of the date that the text shows
abbrev pub Shows : Dates → Dating → Variant → Text → SentLine → Type 0
Shows dates dating variant text it =
    HasFlags dates dating variant text it.dialect (line_value it.line) it.shows_year it.shows_offset

-- the line of a dialect
pub record IsDialectLine (dates : Dates) (is_read : Bool) (text : Text) (it : SentLine) : Type 0 where
  pub dialect : Dialect
  pub named : it.dialect ≡ Some dialect
  pub sent : IsSentIn dates is_read text dialect (line_value it.line)
  pub year : it.shows_year ≡ shows_year sent.sent.date
  pub offset : it.shows_offset ≡ shows_offset sent.sent.date
  pub no_list : list_text it.line.list ≡ []
  pub form : KnowsForm it.line

-- the text is of no dialect that may come before the port's line, and no line between messages
abbrev pub IsNone : Dates → Text → Type 0
IsNone dates text = (MayBegin text → IsInNone dates true text) × (IsNote text → ⊥)

-- what becomes of the port's line of the text under this condition, which says among others that dialects are asked
abbrev pub IsInstead : Type 0 → Dates → Text → Instead → Type 0
IsInstead Asks dates text Kept = Asks → IsNone dates text
IsInstead Asks dates text Note = Asks × IsNote text
IsInstead Asks dates text (Sent it) = (Asks × MayBegin text) × IsDialectLine dates true text it
