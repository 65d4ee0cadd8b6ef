-- A text has one division into the row of each form.
use Rattle.syslog_dated_forms.proofs.Names.{◌*ℤ◌, ◌≡◌, AllDeterministic, arith}
use Rattle.syslog_dated_forms.proofs.Names.{card_row, colon_row, container_row, ctime_message_row, ctime_row, esxi_row}
use Rattle.syslog_dated_forms.proofs.Names.{filed_more, half_row, host_row}
use Rattle.syslog_dated_forms.proofs.Names.{IsDeterministic, iso_row, journal_row, kiwi_row, level_row, logread_row}
use Rattle.syslog_dated_forms.proofs.Names.{mapped_det, mark_row, meraki_row, month_first_row, netscaler_row}
use Rattle.syslog_dated_forms.proofs.Names.{pos, process_row}
use Rattle.syslog_dated_forms.proofs.Names.{procurve_row, Row, row_det, run_clock_row, run_word_row}
use Rattle.syslog_dated_forms.proofs.Names.{SentDate, short_row, slashed_date, slashed_of, slashed_row}
use Rattle.syslog_dated_forms.proofs.Names.{stream_row, sym, timed_row, typed_row, ucm_row, undated_row}
use Rattle.syslog_dated_forms.proofs.Names.{unix_row, unnamed_row, utm_row, xr_row, year_date_row}
use Rattle.syslog_dated_forms.proofs.Names.{year_first_row, year_row, ℕ}
use Rattle.syslog_dated_forms.specs.Dated.{bsd_row}
use Rattle.syslog_dated_forms.proofs.CiscoLemmas.{label_det, message_row_det, origin_det, date_row_det}
use Rattle.std.proofs.Common.{ℤ, ◌*◌, ◌+ℤ◌}
use Rattle.syslog_sent.proofs.DateLemmas.{bsd_det}
use Rattle.syslog_dated_forms.proofs.Names.{of_forms}
use Rattle.syslog_dated_forms.proofs.TailLemmas.{wide_tail_det}
use Rattle.syslog_sent.proofs.ZoneLemmas.{zone_det}
use Rattle.syslog_pieces.proofs.Names.{signed_arith}
use Rattle.jiff.specs.Types.{DateTime}
use Rattle.jiff.specs.Words.{civil_nanos, nanos_of_seconds}
use Rattle.syslog_pieces.specs.Timestamp.Fields.{fields_of}
use Rattle.syslog_pieces.specs.Timestamp.Printed.{civil_fields}
use Rattle.syslog_pieces.proofs.TimestampLemmas.Civil.{civil_fields-is}

-- that one text has one front of what these rows are made of
ruleset of_rows = (wide_tail_det, origin_det, label_det, date_row_det, message_row_det, bsd_det, zone_det, of_forms)

pub bsd_line_det : AllDeterministic bsd_row
bsd_line_det = search of_rows depth 32

pub iso_line_det : AllDeterministic iso_row
iso_line_det = search of_rows depth 32

pub ctime_line_det : AllDeterministic ctime_row
ctime_line_det = search of_rows depth 32

pub journal_line_det : AllDeterministic journal_row
journal_line_det = search of_rows depth 32

pub ctime_message_det : AllDeterministic ctime_message_row
ctime_message_det = search of_rows depth 32

pub year_date_det : AllDeterministic year_date_row
year_date_det = search of_rows depth 32

pub year_line_det : AllDeterministic year_row
year_line_det = search of_rows depth 32

pub stream_row_det : AllDeterministic stream_row
stream_row_det = search of_rows depth 32

pub container_row_det : AllDeterministic container_row
container_row_det = search of_rows depth 32

pub mark_row_det : AllDeterministic mark_row
mark_row_det = search of_rows depth 32

pub esxi_row_det : AllDeterministic esxi_row
esxi_row_det = search of_rows depth 32

pub level_row_det : AllDeterministic level_row
level_row_det = search of_rows depth 32

pub kiwi_row_det : AllDeterministic kiwi_row
kiwi_row_det = search of_rows depth 32

pub half_row_det : AllDeterministic half_row
half_row_det = search of_rows depth 32

pub ucm_row_det : AllDeterministic ucm_row
ucm_row_det = search of_rows depth 32

pub run_word_row_det : AllDeterministic run_word_row
run_word_row_det = search of_rows depth 32

pub run_clock_row_det : AllDeterministic run_clock_row
run_clock_row_det = search of_rows depth 32

pub undated_row_det : AllDeterministic undated_row
undated_row_det = search of_rows depth 32

pub filed_more_det : AllDeterministic filed_more
filed_more_det = search of_rows depth 32

pub timed_row_det : AllDeterministic timed_row
timed_row_det = search of_rows depth 32

pub unix_row_det : AllDeterministic unix_row
unix_row_det = search of_rows depth 32

pub meraki_row_det : AllDeterministic meraki_row
meraki_row_det = search of_rows depth 32

pub short_row_det : AllDeterministic short_row
short_row_det = search of_rows depth 32

pub typed_row_det : AllDeterministic typed_row
typed_row_det = search of_rows depth 32

pub host_row_det : AllDeterministic host_row
host_row_det = search of_rows depth 32

pub card_row_det : AllDeterministic card_row
card_row_det = search of_rows depth 32

pub process_row_det : AllDeterministic process_row
process_row_det = search of_rows depth 32

pub xr_row_det : AllDeterministic xr_row
xr_row_det = search (card_row_det, process_row_det, of_rows) depth 32

pub month_first_row_det : AllDeterministic month_first_row
month_first_row_det = search of_rows depth 32

pub year_first_row_det : AllDeterministic year_first_row
year_first_row_det = search of_rows depth 32

pub slashed_row_det : AllDeterministic slashed_row
slashed_row_det = search of_rows depth 32

slashed_date_det : IsDeterministic slashed_date
slashed_date_det = mapped_det (Row slashed_row) SentDate slashed_of (row_det slashed_row slashed_row_det)

pub netscaler_row_det : AllDeterministic netscaler_row
netscaler_row_det = search (slashed_date_det, of_rows) depth 32

pub unnamed_row_det : AllDeterministic unnamed_row
unnamed_row_det = search (slashed_date_det, of_rows) depth 32

pub procurve_row_det : AllDeterministic procurve_row
procurve_row_det = search of_rows depth 32

pub colon_row_det : AllDeterministic colon_row
colon_row_det = search of_rows depth 32

pub utm_row_det : AllDeterministic utm_row
utm_row_det = search of_rows depth 32

pub logread_row_det : AllDeterministic logread_row
logread_row_det = search of_rows depth 32

-- ---- seconds since 1970

-- what a clock in UTC shows then has these fields
pub shown_fields : (dt : DateTime) (n : ℕ) (i : ℤ) → i ≡ pos n *ℤ pos 1_000_000_000
    → civil_nanos dt ≡ i +ℤ nanos_of_seconds (pos 0) → fields_of dt ≡ civil_fields (pos (n * 1_000_000_000))
shown_fields dt n i e h = sym (civil_fields-is dt (pos (n * 1_000_000_000)) (omega (arith, signed_arith)))
