-- Texts that begin with no date of a form are not of that form.
use Rattle.syslog_dated_forms.proofs.Names.{◌++◌, bsd_of, bsd_row, Dialect, drop, Finds, Form, found_early, Front}
use Rattle.syslog_dated_forms.proofs.Names.{header_stamp, is_blank, IsLed, Iso, iso_date, IsOdd, IsOfNone}
use Rattle.syslog_dated_forms.proofs.Names.{journal_forms, Led, List, Month, no_mapped, no_such_front, NoDivision}
use Rattle.syslog_dated_forms.proofs.Names.{NoFront, None, none_joined, Option, Row, run, Sent, SentDate, Some}
use Rattle.syslog_dated_forms.proofs.Names.{such_that, Text, xr_row}
use Rattle.syslog_sent.specs.Date.{odd_bsd_date, odd_iso_date}
use Rattle.syslog_dated_forms.specs.Dated as dated
use Rattle.syslog_sent.proofs.DateLemmas.{no_unless_later}
use Rattle.syslog_sent.specs.Led.{IsDate}
use Rattle.syslog_sent.specs.declared.led.LeadingDate.{LeadingDate}
use Rattle.syslog_dated_forms.proofs.IsoFrontLemmas.{begins_iso, has_iso, iso_no_xr}
use Rattle.syslog_dated_forms.proofs.MonthFrontLemmas.{begins_month, has_month, no_xr}
use Rattle.syslog_dated_forms.proofs.OtherFormLemmas.{not_begun, of_no_other}

pub no_odd_month : {t u : Text} → Front (run is_blank) t u tt → NoFront (Row bsd_row) u → NoDivision dated.bsd_row t
no_odd_month g n = not_begun odd_bsd_date (drop 2 dated.bsd_row) g
    (no_mapped (such_that (Row bsd_row) IsOdd) SentDate bsd_of (no_such_front (Row bsd_row) IsOdd n))

pub no_odd_iso : {t u : Text} → Front (run is_blank) t u tt → NoFront iso_date u → NoDivision dated.iso_row t
no_odd_iso g n = not_begun odd_iso_date (drop 2 dated.iso_row) g (no_unless_later header_stamp iso_date n)

-- a line that begins with a date is of no form with another beginning
xr_at : (d : LeadingDate) {text t : Text} (r : Text) → Front (run is_blank) text t tt → IsDate d t r → NoDivision
    xr_row text
xr_at (Month d) r g f = no_xr (has_month f) g
xr_at (Iso d) r g (n, f) = iso_no_xr g (has_iso f)

pub no_led_xr : {text : Text} {led : Led} → IsLed text led → NoDivision xr_row text
no_led_xr {led = led} is = xr_at led.date _ is.gap is.date

other_at : (d : LeadingDate) {text t : Text} (r : Text) → Front (run is_blank) text t tt → IsDate d t r
    → IsOfNone journal_forms text
other_at (Month d) r g f = of_no_other g (begins_month (has_month f))
other_at (Iso d) r g (n, f) = of_no_other g (begins_iso (has_iso f))

pub no_led_other : {text : Text} {led : Led} → IsLed text led → IsOfNone journal_forms text
no_led_other {led = led} is = other_at led.date _ is.gap is.date

-- ---- what the readers of the first of two lists return, where the text is of none of the second
pub found_alone : (Fs Gs : List Form) (text : Text) (r : Option (Dialect × Sent)) → IsOfNone Gs text → Finds Fs text r
    → Finds (Fs ++ Gs) text r
found_alone Fs Gs text None none more = none_joined Fs Gs text more none
found_alone Fs Gs text (Some x) none is = found_early Fs Gs text x is
