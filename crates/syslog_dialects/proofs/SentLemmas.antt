-- The timestamp of a date that a line shows.
use Rattle.syslog_dialects.proofs.Names.{◌∙◌, ◌≡◌, ap, arith, ClockStamp, Dates, HasStamp, None, OffsetTimestamp}
use Rattle.syslog_dialects.proofs.Names.{Option, refl, SentDate, Some, sym, ℕ}
use Rattle.std.proofs.Common.{ℤ, pos, ◌<ℤ◌}
use Rattle.jiff.specs.Types.{Offset}
use Rattle.jiff.specs.Words.{plain_zone}
use Rattle.syslog_pieces.specs.Timestamp.{IsAnswer}
use Rattle.syslog_pieces.specs.Timestamp.Fields.{IsStampOfClock}
use Rattle.syslog_pieces.specs.Timestamp.Zone.{IsStampOfFields}
use Rattle.syslog_pieces.specs.declared.timestamp.fields.CivilFields.{CivilFields}
use Rattle.syslog_pieces.proofs.TimestampLemmas.MonthDate.{in_any_once, one_datetime}
use Rattle.syslog_pieces.proofs.TimestampLemmas.Rfc3339.{answer_same, same_offset, same_timestamp}
use Rattle.syslog_pieces.specs.declared.timestamp.month_date.MonthDate.{MonthDate}
use Rattle.syslog_loose.proofs.ReckoningLemmas.{year_once}
use Rattle.syslog_loose.specs.Reading.{IncompleteDate}
use Rattle.jiff.proofs.SpanFacts.{signed_arith}
use Rattle.syslog_dialects.specs.SentLine.{IsSentStamp, IsSentYear, IsStampIn, IsYearWith, sent_fields}

stamp_in_once : (dates : Dates) (offset : Option ℤ) (f : CivilFields) (s t : OffsetTimestamp)
    → IsStampIn dates offset f s
    → IsStampIn dates offset f t → s ≡ t
stamp_in_once dates None f s t (dt, e, h) (dt', e', k) =
    let same : dt ≡ dt' = one_datetime f dt dt' e e' in
    in_any_once None (plain_zone dates.zone) dt' s t (rw same at h) k
stamp_in_once dates (Some seconds) f s t (offset, e, h) (offset', e', k) =
    let same = e ∙ sym e' in same_timestamp s t (rw (h.instant, k.instant, same) refl)
    (h.at_offset ∙ same ∙ sym k.at_offset)

-- a date has one year
year_with_once : (dates : Dates) (shown : Option ℕ) (numbers : IncompleteDate) (y z : ℤ)
    → IsYearWith dates shown numbers y → IsYearWith dates shown numbers z → y ≡ z
year_with_once dates (Some year) numbers y z is too = is ∙ sym too
year_with_once dates None numbers y z is too = year_once dates.today numbers y z is too

sent_year_once : (dates : Dates) (date : MonthDate) (y z : ℤ) → IsSentYear dates date y → IsSentYear dates date z
    → y ≡ z
sent_year_once dates date y z is too =
    year_with_once dates date.year (date.month, date.day, date.hour, date.minute, date.second) y z is too

-- and one timestamp
pub stamp_once : (dates : Dates) (date : Option SentDate) (s t : Option OffsetTimestamp) → HasStamp dates date s
    → HasStamp dates date t → s ≡ t
stamp_once dates None s t e f = e ∙ sym f
stamp_once dates (Some date) s t (a, e, (y, is, h)) (b, f, (z, too, k)) =
    let same = sent_year_once dates date.date y z is too in
    e ∙ ap Some (stamp_in_once dates date.offset (sent_fields z date) a b (rw same at h) k) ∙ sym f

-- and none, if all its years are past the calendar
past_calendar : (dates : Dates) (offset : Option ℤ) (f : CivilFields) (s : OffsetTimestamp) → pos 9999 <ℤ f.year
    → IsStampIn dates offset f s → ⊥
past_calendar dates None f s past (dt, same, at) =
    let year : dt.date.year ≡ f.year = ap (λ (g : CivilFields). g.year) same in
    omega (arith, signed_arith, past, year, dt.date.year_in.1)
past_calendar dates (Some seconds) f s past (offset, at, clock) =
    omega (arith, signed_arith, past, clock.civil.date.0.1)

pub never_stamped : (dates : Dates) (sent : SentDate)
    → ((year : ℤ) → IsSentYear dates sent.date year → pos 9999 <ℤ year) → (s : OffsetTimestamp)
    → IsSentStamp dates sent s → ⊥
never_stamped dates sent past s (year, is, stamp) =
    past_calendar dates sent.offset (sent_fields year sent) s (past year is) stamp

-- ---- what the clock shows, in the year of the date
module _ (dates : Dates) (sent : SentDate) (year : ℤ) (is_year : IsSentYear dates sent.date year) where
  -- a timestamp of it is that of the date, whatever year it is said to be of
  in_year : (s : OffsetTimestamp) → IsSentStamp dates sent s → IsStampIn dates sent.offset (sent_fields year sent) s
  in_year s (other, too, h) = rw (sent_year_once dates sent.date other year too is_year) at h

  -- in the zone of the dates
  pub stamped_there : (r : Option ClockStamp) → sent.offset ≡ None
      → IsAnswer (IsStampOfFields None (plain_zone dates.zone) (sent_fields year sent)) r
      → IsAnswer (IsSentStamp dates sent) r
  stamped_there r none h =
      answer_same (IsStampOfFields None (plain_zone dates.zone) (sent_fields year sent)) (IsSentStamp dates sent) r
      (λ s is. (year, is_year, rw none is)) (λ s is. rw none at (in_year s is)) h

  -- at the offset that is shown
  pub stamped_at : (offset : Offset) (seconds : ℤ) (r : Option ClockStamp) → sent.offset ≡ Some seconds
      → offset.seconds ≡ seconds → IsAnswer (IsStampOfClock (sent_fields year sent) offset) r
      → IsAnswer (IsSentStamp dates sent) r
  stamped_at offset seconds r some at h =
      answer_same (IsStampOfClock (sent_fields year sent) offset) (IsSentStamp dates sent) r
      (λ s is. (year, is_year, rw some (offset, at, is)))
      (λ s is.
      let (o, too, there) = rw some at (in_year s is) in
      let same : o ≡ offset = same_offset o offset (too ∙ sym at) in rw same at there) h
