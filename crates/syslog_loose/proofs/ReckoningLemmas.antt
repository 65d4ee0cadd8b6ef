-- A date has one year, and a text one dating.
use Rattle.syslog_loose.proofs.Names.{rules, ◌≡◌, ◌∙◌, ℤ, Option, Some, None, refl, sym, Text, Dating, MonthDate}
use Rattle.syslog_loose.proofs.Names.{AsksYear, IncompleteDate, IsYearAnswered, Variant, RFC5424}
use Rattle.jiff.{proofs.SpanFacts.signed_arith, specs.Types.Date, specs.Words.plain_zone}
use Rattle.syslog_pieces.proofs.TimestampLemmas.MonthDate.{shown_once}
use Rattle.std.proofs.Common.{arith, inl, inr}
use Rattle.syslog_loose.specs.{Dates.IsDated, Today.IsYearIn, declared.dates.Dates.Dates, declared.today.Today.Today}
use Rattle.syslog_loose.specs.{Reckoning.IsYearOnDay, Reckoning.dating_in, declared.today.Today.TheVariants.Day}

asked_once : (variant : Variant) (text : Text) (d e : MonthDate) → AsksYear variant text d → AsksYear variant text e
    → d ≡ e
asked_once RFC5424 text d e asks also = absurd asks
asked_once variant text d e asks also = shown_once text d e asks also

-- ---- a date has one year

latest_once : (day : Date) (date : IncompleteDate) (y z : ℤ) → IsYearOnDay day date y → IsYearOnDay day date z → y ≡ z
latest_once day date y z (inl is) (inl too) =
    omega (arith, signed_arith, is.last z too.in_time, too.last y is.in_time)
latest_once day date y z (inl is) (inr none) = absurd (none.0 y is.in_time)
latest_once day date y z (inr none) (inl is) = absurd (none.0 z is.in_time)
latest_once day date y z (inr is) (inr too) = is.1 ∙ sym too.1

pub year_once : (today : Today) (date : IncompleteDate) (y z : ℤ) → IsYearIn today date y → IsYearIn today date z
    → y ≡ z
year_once (Day day) date y z is too = latest_once day date y z is too
year_once today date y z is too = is ∙ sym too

-- ---- a text has one dating

answered_once : (today : Today) (variant : Variant) (text : Text) (year other : Option ℤ)
    → IsYearAnswered (IsYearIn today) variant text year → IsYearAnswered (IsYearIn today) variant text other
    → (date : MonthDate) → AsksYear variant text date → year ≡ other
answered_once today variant text None other never is date asks = absurd (never date asks)
answered_once today variant text (Some y) None is never date asks = absurd (never date asks)
answered_once today variant text (Some y) (Some z) (d, shown, is) (e, also, too) date asks =
    search (rules, asked_once, year_once)

-- what holds of the dating, and what else does, holds of one
pub one_dating : {Holds More : Dating → Type 0} (dates : Dates) (variant : Variant) (text : Text)
    → IsDated dates variant text Holds → IsDated dates variant text More → (dating : Dating) × Holds dating
    × More dating
one_dating dates variant text g h = (
  dating_in (plain_zone dates.zone) g.answered,
  g.holds g.answered (λ date asks. refl),
  h.holds g.answered (answered_once dates.today variant text g.answered h.answered g.is_answered h.is_answered),
)
