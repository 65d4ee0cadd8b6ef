-- A line of RFC 5424 shows no month date.
use Rattle.syslog_c.proofs.Words.{◌≡◌, ◌∙◌, ap, refl, ℕ, Text, Dating, Variant, inl, inr, arith, Option, None, Some}
use Rattle.syslog_c.proofs.Words.{IsStamp, MessageValue, OffsetTimestamp, ShowsNoDate, Stamp}
use Rattle.syslog_loose.specs.Reading.{IsRead, dash_rule}
use Rattle.syslog_loose.specs.Rfc3164.{IsRead3164}
use Rattle.syslog_loose.specs.declared.variant.Variant.TheVariants.{Either, RFC3164, RFC5424}
use Rattle.syslog_loose.specs.declared.date_form.DateForm.TheVariants.{Whole}
use Rattle.syslog_loose.proofs.ReadingLemmas as reading
use Rattle.syslog_sent.specs.declared.dialect.Dialect.{Dialect}
use Rattle.syslog_c.specs.Fields.{AreFields, protocol_number}
use Rattle.syslog_c.specs.OfLine.{AreOfLine}
use Rattle.syslog_loose.specs.Line.{line_value}
use Rattle.syslog_loose.specs.declared.line.Line.{Line}
use Rattle.syslog_c.specs.declared.fields.Fields.{Fields}
use Rattle.syslog_c.specs.Shown.{AreFlags, IsShown}

-- a message of RFC 3164 has another number
is_loose : (dating : Dating) (text : Text) (m : MessageValue) → IsRead3164 dash_rule dating text m
    → protocol_number m.protocol ≡ 3164
is_loose dating text m r = let (n, names, e) = r.means in ap (λ (x : MessageValue). protocol_number x.protocol) e

not_both : (n : ℕ) → n ≡ 3164 → n ≡ 5424 → ⊥
not_both n e f = omega arith

pub strict_shows_none : (variant : Variant) (dating : Dating) (text : Text) (m : MessageValue)
    → IsRead variant dating text m → protocol_number m.protocol ≡ 5424 → ShowsNoDate text
strict_shows_none RFC5424 dating text m r e = reading.strict_shows_none text m r
strict_shows_none RFC3164 dating text m r e = absurd (not_both _ (is_loose dating text m r) e)
strict_shows_none Either dating text m (inl r) e = reading.strict_shows_none text m r
strict_shows_none Either dating text m (inr (none, r)) e = absurd (not_both _ (is_loose dating text m r) e)

-- a timestamp of the same instant, with the flags of the text
pub flagged : (text : Text) (s t : Stamp) → (s.present ≡ 0 → ⊥) → t.seconds ≡ s.seconds → t.nanoseconds ≡ s.nanoseconds
    → t.offset ≡ s.offset → t.present ≡ s.present → AreFlags text t.shows_year t.shows_offset
    → (at : Option OffsetTimestamp) → IsStamp s at → IsStamp t at × IsShown text t
flagged text s t there e f g h flags None is = absurd (there is.0)
flagged text s t there e f g h flags (Some at) is = (
  record {
    present = h ∙ is.present;
    seconds = e ∙ is.seconds;
    nanoseconds = f ∙ is.nanoseconds;
    offset = g ∙ is.offset;
  },
  inr (h ∙ is.present, flags),
)

-- the same of a text that shows no month date
pub flagged_strict : (text : Text) (s t : Stamp) → ShowsNoDate text → t.seconds ≡ s.seconds
    → t.nanoseconds ≡ s.nanoseconds → t.offset ≡ s.offset → t.present ≡ s.present → t.shows_year ≡ s.present
    → t.shows_offset ≡ s.present → (at : Option OffsetTimestamp) → IsStamp s at → IsStamp t at × IsShown text t
flagged_strict text s t none e f g h y o None is = (
  (h ∙ is.0, e ∙ is.1, f ∙ is.2, g ∙ is.3, y ∙ is.0, o ∙ is.0),
  inl (h ∙ is.0, y ∙ is.0, o ∙ is.0),
)
flagged_strict text s t none e f g h y o (Some at) is =
    flagged text s t (λ absent. omega (arith, absent, is.present)) e f g h
    (Whole, (None, none, refl), y ∙ is.present, o ∙ is.present) (Some at) is

-- the fields say what the message is with another timestamp too that does
restamped : (f : Fields) (s : Stamp) (dialect : Option Dialect) (m : MessageValue) → AreFields f dialect m
    → IsStamp s m.timestamp → AreFields (record f { timestamp = s }) dialect m
restamped f s dialect m are is = record {
  protocol = are.protocol;
  version = are.version;
  facility = are.facility;
  severity = are.severity;
  timestamp = is;
  host = are.host;
  app = are.app;
  process = are.process;
  msgid = are.msgid;
  msg = are.msg;
  elements = are.elements;
  params = are.params;
  dialect = are.dialect;
}

-- and of a line too
pub restamped_line : (f : Fields) (s : Stamp) (dialect : Option Dialect) (line : Line) → AreOfLine f dialect line
    → IsStamp s (line_value line).timestamp → AreOfLine (record f { timestamp = s }) dialect line
restamped_line f s dialect line of is = record {
  are = restamped f s dialect (line_value line) of.are is;
  unparsed = of.unparsed;
  left = of.left;
  has = of.has;
}
