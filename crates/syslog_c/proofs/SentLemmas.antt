-- A line that is read as its sender meant it, and what its timestamp shows.
use Rattle.syslog_c.proofs.Words.{◌≡◌, ◌∙◌, Option, None, Some, inl, refl, sym, subst, Text, Dating, line_value}
use Rattle.syslog_c.proofs.Words.{IsStamp, List, MessageValue, OffsetTimestamp, Rules, ShowsNoDate, Stamp}
use Rattle.syslog_c.proofs.Words.{dating_in, in_year_map, inr, list_elements, NoReading, Outcome}
use Rattle.std.proofs.Common.{ℤ}
use Rattle.syslog_c.proofs.Words.{◌++◌}
use Rattle.std.specs.Prelude.{true, false, codes}
use Rattle.syslog_text.specs.Pieces.Class.{NoFront, exactly}
use Rattle.syslog_text.specs.Text.{trimmed}
use Rattle.syslog_dialects.specs.Note.{IsNote}
use Rattle.syslog_elements.specs.StructuredData.Element.{ElementValue}
use Rattle.jiff.specs.Words.{plain_zone}
use Rattle.syslog_loose.proofs.ReckoningLemmas.{one_dating}
use Rattle.syslog_loose.specs.Reading.{AsksYear, InYear, IsUnreadable}
use Rattle.syslog_loose.specs.Today.{IsYearIn}
use Rattle.syslog_pieces.specs.declared.timestamp.month_date.MonthDate.{MonthDate}
use Rattle.syslog_loose.specs.Visit.{IsLineOf}
use Rattle.syslog_loose.specs.declared.line.Line.{Line}
use Rattle.syslog_dialects.proofs.SentReadingLemmas.{flags, in_dialect, left_read, odd_elements, read_once}
use Rattle.syslog_dialects.proofs.SentReadingLemmas.{dialect_leaves, read_not_unsent, undated}
use Rattle.syslog_loose.proofs.UnparsedLemmas.{leaves_of}
use Rattle.syslog_loose.specs.Unparsed.{IsLeftUnparsed}
use Rattle.syslog_dialects.specs.Ordinary.{IsOrdinary}
use Rattle.syslog_dialects.specs.SentReading.{AreAsked, HasFlags, IsDialectLine, IsLeft, IsNone, MayBegin}
use Rattle.syslog_dialects.specs.SentReading.{LeavesSent, Shows, Stands}
use Rattle.syslog_sent.specs.declared.dialect.Dialect.{Dialect}
use Rattle.syslog_dialects.specs.declared.visit.SentLine.{SentLine}
use Rattle.syslog_c.specs.OfLine.{AreOfLine}
use Rattle.syslog_c.specs.Sent.{IsMeant, IsNoNote, IsOnlyMeant, IsUnnoted}
use Rattle.syslog_c.specs.Shown.{IsShown, IsShownIn, flag_number}
use Rattle.syslog_c.specs.Reported.{AreMeant, AreTaken, MeansOnly, ReportsFields}
use Rattle.syslog_c.specs.declared.fields.Fields.{Fields}
use Rattle.syslog_c.specs.declared.outcome.Outcome.TheVariants.{Done}
use Rattle.syslog_c.proofs.ShownLemmas.{restamped_line, strict_shows_none}

-- a text is read as one message
pub only_meant : (rules : Rules) (dating : Dating) (text : Text) (dialect : Option Dialect) (m : MessageValue)
    → IsMeant rules dating text dialect m → IsOnlyMeant rules dating text dialect m
only_meant rules dating text dialect m read = record {
  read = read;
  only = λ other n is.
      read_once rules.dates dating rules.dialects rules.variant text dialect other m n read is;
}

-- ---- what is no line between messages

-- a text that is read is none
pub read_unnoted : (rules : Rules) (dating : Dating) (text : Text) (dialect : Option Dialect) (m : MessageValue)
    → IsMeant rules dating text dialect m → IsUnnoted rules dating text
read_unnoted rules dating text dialect m read asked noted =
    read_not_unsent rules.dates dating rules.dialects rules.variant text dialect m read (inr (asked, noted))

-- a text without two dashes and a space at its front is none
pub not_dashed : (text t : Text) → t ≡ trimmed text → NoFront (exactly (codes "-- ")) t → IsNote text → ⊥
not_dashed text t same none (inner, is, b) = none (codes "-- ") (inner ++ codes " --") tt (same ∙ is) refl

-- what holds in the year of the text holds beside that
pub with_unnoted : (rules : Rules) (text : Text) {Holds : Option ℤ → Type 0} → IsNoNote rules text
    → InYear (λ date year. IsYearIn rules.dates.today date year) rules.variant text Holds
    → InYear (λ date year. IsYearIn rules.dates.today date year) rules.variant text
    (λ year. Holds year × IsUnnoted rules (dating_in (plain_zone rules.dates.zone) year) text)
with_unnoted rules text (inl none) h = in_year_map (λ year is. (is, λ asked noted. none noted.1)) h
with_unnoted rules text (inr never) h =
    let (dating, this, that) =
    one_dating {Holds = λ d. (date : MonthDate) → AsksYear rules.variant text date → d.year ≡ h.answered}
    {More = λ d. (date : MonthDate) → AsksYear rules.variant text date → d.year ≡ never.answered}
    rules.dates rules.variant text
    (record { answered = h.answered; is_answered = h.is_answered; holds = λ year agrees. agrees })
    (record { answered = never.answered; is_answered = never.is_answered; holds = λ year agrees. agrees }) in
    record {
      answered = h.answered;
      is_answered = h.is_answered;
      holds = λ year agrees. (
        h.holds year agrees,
        never.holds year (λ date asks. agrees date asks ∙ sym (this date asks) ∙ that date asks),
      );
    }

-- ---- the fields of a line

-- of a dialect
pub sent_fields : (rules : Rules) (dating : Dating) (text : Text) (it : SentLine) (dialect : Dialect) (f : Fields)
    (t : Stamp) → it.dialect ≡ Some dialect → Shows rules.dates dating rules.variant text it
    → AreOfLine f it.dialect it.line
    → ((at : Option OffsetTimestamp) → (at ≡ None → (it.shows_year ≡ false) × (it.shows_offset ≡ false))
    → IsStamp f.timestamp at → IsStamp t at) → t.shows_year ≡ flag_number it.shows_year
    → t.shows_offset ≡ flag_number it.shows_offset
    → AreOfLine (record f { timestamp = t }) it.dialect it.line
    × IsShownIn rules dating text it.dialect (line_value it.line) t
sent_fields rules dating text it dialect f t named shown are stamps year offset =
    let m = line_value it.line in
    let shows = subst (λ (d : Option Dialect). HasFlags rules.dates dating rules.variant text d m it.shows_year
    it.shows_offset) named shown in (
      restamped_line f t it.dialect it.line are (stamps m.timestamp (λ none. undated rules.dates dating rules.variant
          text dialect
          m it.shows_year it.shows_offset shows none) are.are.timestamp),
      subst (λ (d : Option Dialect). IsShownIn rules dating text d m t) (sym named) record {
        year = it.shows_year;
        offset = it.shows_offset;
        flags = shows;
        shows_year = year;
        shows_offset = offset;
      },
    )

-- of the port
pub port_fields : (rules : Rules) (dating : Dating) (text : Text) (line : Line) (f : Fields) (t : Stamp)
    → IsLineOf rules.variant dating text line → AreOfLine f None line
    → ((at : Option OffsetTimestamp) → IsStamp f.timestamp at → (f.protocol ≡ 5424 → ShowsNoDate text)
    → IsStamp t at × IsShown text t)
    → AreOfLine (record f { timestamp = t }) None line × IsShown text t
port_fields rules dating text line f t of are stamps =
    let m = line_value line in
    let at = stamps m.timestamp are.are.timestamp
    (λ strict. strict_shows_none rules.variant dating text m of.only.read (sym are.are.protocol ∙ strict)) in
    (restamped_line f t None line are at.0, at.1)

module _ (rules : Rules) (dating : Dating) (text : Text) (line : Line) (new : Fields)
    (of : IsLineOf rules.variant dating text line) where
  -- the port's line is kept, since it is ordinary, or since the text is of no dialect
  port_meant : Stands rules.dates dating rules.dialects rules.variant text
      → AreOfLine new None line × IsShown text new.timestamp
      → AreMeant rules dating text (list_elements line.list) new
  port_meant stands are = record {
    dialect = None;
    message = line_value line;
    only = only_meant rules dating text None (line_value line) (of.only, stands);
    are = are.0.are;
    shown = are.1;
    leaves = (are.0.unparsed, leaves_of rules.variant dating text line are.0.unparsed of are.0.left, are.0.has);
    elements = refl;
  }

  pub ordinary_meant : IsOrdinary line → AreOfLine new None line × IsShown text new.timestamp
      → AreMeant rules dating text (list_elements line.list) new
  ordinary_meant is = port_meant
      (left_read rules.dates dating rules.dialects rules.variant text line of (λ odd. absurd (odd is)))

  pub left_meant : (AreAsked rules.dialects rules.variant → IsNone rules.dates text)
      → AreOfLine new None line × IsShown text new.timestamp
      → AreMeant rules dating text (list_elements line.list) new
  left_meant none = port_meant
      (λ asked. left_read rules.dates dating rules.dialects rules.variant text line of (λ odd. none asked) asked)

  -- a dialect's line comes before it
  pub instead_meant : (it : SentLine) → (IsOrdinary line → ⊥)
      → (AreAsked rules.dialects rules.variant × MayBegin text) × IsDialectLine rules.dates true text it
      → ((dialect : Dialect) → it.dialect ≡ Some dialect → Shows rules.dates dating rules.variant text it
      → AreOfLine new it.dialect it.line
      × IsShownIn rules dating text it.dialect (line_value it.line) new.timestamp)
      → AreMeant rules dating text (list_elements it.line.list) new
  instead_meant it odd ((asked, may), is) says =
      let left : IsLeft rules.variant dating text true = ((line, of, odd), may) in
      let are = says is.dialect is.named
      (flags rules.dates dating rules.dialects rules.variant text true it left is) in
      record {
        dialect = it.dialect;
        message = line_value it.line;
        only = only_meant rules dating text it.dialect (line_value it.line)
            (in_dialect rules.dates dating rules.dialects rules.variant text asked true it left is);
        are = are.0.are;
        shown = are.1;
        leaves = (
          are.0.unparsed,
          dialect_leaves rules.dates true rules.variant text it are.0.unparsed is are.0.left,
          are.0.has,
        );
        elements = refl;
      }

  -- and the port's has no elements
  pub instead_taken : (it : SentLine) → (IsOrdinary line → ⊥) → AreMeant rules dating text (list_elements it.line.list)
      new
      → AreTaken rules dating text (list_elements line.list) (Some it.line.list) new
  instead_taken it odd meant = (list_elements it.line.list, meant, (odd_elements line odd, refl))

  pub port_taken : AreMeant rules dating text (list_elements line.list) new
      → AreTaken rules dating text (list_elements line.list) None new
  port_taken meant = (list_elements line.list, meant, refl)

-- where the port reads none, the line is of a dialect
pub unread_meant : (rules : Rules) (dating : Dating) (text : Text) (it : SentLine) (new : Fields)
    → IsUnreadable rules.variant dating text → IsMeant rules dating text it.dialect (line_value it.line)
    → Shows rules.dates dating rules.variant text it
    → ((u : Text) → IsLeftUnparsed it.line u → LeavesSent it.dialect rules.variant text u)
    → ((dialect : Dialect) → it.dialect ≡ Some dialect → Shows rules.dates dating rules.variant text it
    → AreOfLine new it.dialect it.line
    × IsShownIn rules dating text it.dialect (line_value it.line) new.timestamp)
    → AreMeant rules dating text (list_elements it.line.list) new
unread_meant rules dating text it new none read shown leaves says =
    let (dialect, named) = which it.dialect refl in
    let are = says dialect named shown in
    record {
      dialect = it.dialect;
      message = line_value it.line;
      only = only_meant rules dating text it.dialect (line_value it.line) read;
      are = are.0.are;
      shown = are.1;
      leaves = (are.0.unparsed, leaves are.0.unparsed are.0.left, are.0.has);
      elements = refl;
    }
  where
    which : (d : Option Dialect) → it.dialect ≡ d → (dialect : Dialect) × (it.dialect ≡ Some dialect)
    which None port = absurd (none (line_value it.line)
        (subst (λ (d : Option Dialect). IsMeant rules dating text d (line_value it.line)) port read).0.read)
    which (Some dialect) named = (dialect, named)

-- the fields are reported
pub reported : (rules : Rules) (dating : Dating) (text : Text) (es : List ElementValue) (old new : Fields)
    → AreMeant rules dating text es new → ReportsFields rules dating text old new Done
reported rules dating text es old new meant =
    inl (meant.dialect, meant.message, meant.only, refl, meant.are, meant.shown, meant.leaves)

pub unread_reported : (rules : Rules) (dating : Dating) (text : Text) (old mid new : Fields) (outcome : Outcome)
    → mid ≡ old → MeansOnly rules dating text mid new outcome → ReportsFields rules dating text old new outcome
unread_reported rules dating text old mid new Done same (es, meant) = reported rules dating text es old new meant
unread_reported rules dating text old mid new NoReading same (unsent, is) = inr ((refl, unsent), is ∙ same)
unread_reported rules dating text old mid new outcome same none = absurd none
