-- Texts that begin with a date are of no form with another beginning.
use Rattle.syslog_dated_forms.proofs.Names.{[], ◌also◌, ◌past◌, ◌∷◌, any_date, any_front, Class, colon, counter_row}
use Rattle.syslog_dated_forms.proofs.Names.{ctime_message_row, ctime_row, drop, exactly, Front, in_brackets_row, inl}
use Rattle.syslog_dated_forms.proofs.Names.{is_blank, IsLed, IsName, IsOfNone, journal_forms, journal_row, label, Led}
use Rattle.syslog_dated_forms.proofs.Names.{List, logread_row, meraki_row, message_row, mnemonic, netscaler_row, no_row}
use Rattle.syslog_dated_forms.proofs.Names.{no_row_division, no_such_front, NoDivision, NoFront, optional_none, Row}
use Rattle.syslog_dated_forms.proofs.Names.{row_none_here, row_none_later, run, run_det, short_row, shown, slashed_date}
use Rattle.syslog_dated_forms.proofs.Names.{Text, typed_row, ucm_row, undated_row, unix_date, unnamed_row, uptime}
use Rattle.syslog_dated_forms.proofs.Names.{utm_row, weekday, year_date, year_row}
use Rattle.syslog_dated_forms.specs.SophosUtm.{colon_date}
use Rattle.syslog_dated_forms.proofs.CiscoLemmas.{message_row_det}
use Rattle.syslog_dated_forms.proofs.RowLemmas.{undated_row_det}
use Rattle.syslog_dated_forms.specs.Undated.{name_label}

-- a text whose first piece after blanks is missing is not of the form
pub not_begun : (C : Class) (Cs : List Class) {text t : Text} → Front (run is_blank) text t tt → NoFront C t
    → NoDivision (run is_blank ∷ C ∷ Cs) text
not_begun C Cs gap n = no_row_division (run is_blank ∷ C ∷ Cs)
    (row_none_later (run is_blank) (C ∷ Cs) (run_det is_blank) gap (row_none_here C Cs n))

-- nothing with which a form begins that has no date there
pub record BeginsOtherwise (t : Text) : Type 0 where
  pub no_gap : Front (run is_blank) t t tt
  pub no_colon : NoFront (exactly colon) t
  pub no_bracket : NoFront (exactly (91 ∷ [])) t
  pub no_counter : NoFront (Row counter_row) t
  pub no_label : NoFront label t
  pub no_uptime : NoFront uptime t
  pub no_mnemonic : NoFront mnemonic t
  pub no_weekday : NoFront weekday t
  pub no_slashed_date : NoFront slashed_date t
  pub no_colon_date : NoFront colon_date t
  pub no_year_date : NoFront year_date t
  pub no_unix_date : NoFront unix_date t
  pub no_meraki : NoFront (Row (drop 1 meraki_row)) t

pub of_no_other : {text t : Text} → Front (run is_blank) text t tt → BeginsOtherwise t → IsOfNone journal_forms text
of_no_other gap o =
    not_begun weekday (drop 2 journal_row) gap o.no_weekday also
    not_begun (Row counter_row) (drop 2 ucm_row) gap o.no_counter also
    not_begun slashed_date (drop 2 unnamed_row) gap o.no_slashed_date also
    not_begun slashed_date (drop 2 netscaler_row) gap o.no_slashed_date also
    not_begun colon_date (drop 2 utm_row) gap o.no_colon_date also
    not_begun weekday (drop 2 logread_row) gap o.no_weekday also
    not_begun weekday (drop 2 ctime_message_row) gap o.no_weekday also
    not_begun weekday (drop 2 ctime_row) gap o.no_weekday also
    not_begun year_date (drop 2 year_row) gap o.no_year_date also
    no_row_division meraki_row
    (row_none_later (run is_blank) (drop 1 meraki_row) (run_det is_blank) gap o.no_meraki) also
    not_begun unix_date (drop 2 short_row) gap o.no_unix_date also
    not_begun unix_date (drop 2 typed_row) gap o.no_unix_date also
    no_row_division undated_row (no_row undated_row undated_row_det (gap
    past optional_none (exactly colon) o.no_colon past o.no_gap
    past optional_none (Row counter_row) o.no_counter past optional_none (Row counter_row) o.no_counter
    past optional_none name_label (no_such_front label IsName o.no_label) past optional_none uptime o.no_uptime
    past inl (no_row message_row message_row_det (inl o.no_mnemonic)))) also
    not_begun (exactly (91 ∷ [])) (drop 2 in_brackets_row) gap o.no_bracket also tt

-- the date of a line that begins with one
pub led_date : {text : Text} (led : Led) → IsLed text led → Front any_date (shown led.text) (shown led.rest) led.sent
led_date led is = rw is.sent (any_front led.date is.date)
