-- Lines of Cisco Unified Communications Manager, whose clock shows twelve hours: `12: cucm1: Nov 23 2026 02:13:44
-- PM.442 UTC :  %UC_AUDITLOG-5-AdministrativeEvent: text` ("Cisco Unified Serviceability", alarm definitions).
use Rattle.std.proofs.Common.{inl, inr}
use Rattle.std.specs.Prelude.{◌≡◌, ◌⊎◌, ℕ, ◌+◌, Bool, true, false, List, [], ◌∷◌, None, Some, codes, cond, nat_eq}
use Rattle.std.specs.Prelude.{nat_lt, unwrap_or}
use Rattle.std.specs.Option.{option_flatten}
use Rattle.syslog_text.specs.Pieces.Class.{Class, Values, Row, exactly, mapped, optional, run}
use Rattle.syslog_text.specs.Text.{colon, is_blank}
use Rattle.syslog_pieces.specs.Timestamp.MonthDate.{month_date}
use Rattle.syslog_dated_forms.specs.Cisco.{counter_row, label, message_row}
use Rattle.syslog_sent.specs.Date.{fraction}
use Rattle.syslog_sent.specs.Named.{◌otherwise◌}
use Rattle.syslog_sent.specs.Sent.{Form, SentValue, loose}
use Rattle.syslog_sent.specs.Zone.{zone}
use Rattle.syslog_sent.specs.declared.dialect.Dialect.TheVariants.{CiscoIos}
use Rattle.syslog_sent.specs.declared.sent.SentDate.{SentDate}

-- ---- the date

abbrev pub morning : Class
morning = exactly (codes " AM")

abbrev pub afternoon : Class
afternoon = exactly (codes " PM")

abbrev pub is_late : morning.Value ⊎ afternoon.Value → Bool
is_late (inl v) = false
is_late (inr v) = true

-- the half of the day: whether the hour is one after noon
abbrev pub half : Class
half = mapped (morning otherwise afternoon) Bool is_late

-- the hour of a clock that shows twenty-four: 12 AM is 0, and 12 PM is 12
abbrev pub hour_of : Bool → ℕ → ℕ
hour_of false hour = cond (nat_eq hour 12) 0 hour
hour_of true hour = cond (nat_lt hour 12) (hour + 12) hour

abbrev pub half_row : List Class
half_row = month_date ∷ half ∷ optional fraction ∷ optional zone ∷ []

abbrev pub half_of : Values half_row → SentDate
half_of (d, (late, (f, (z, _)))) = record {
  date = record {
    year = d.year;
    month = d.month;
    day = d.day;
    hour = hour_of late d.hour;
    minute = d.minute;
    second = d.second;
  };
  nanosecond = unwrap_or f 0;
  offset = option_flatten z;
}

abbrev pub half_date : Class
half_date = mapped (Row half_row) SentDate half_of

-- ---- the line: a counter, the host if it is shown, the date, and the message

abbrev pub ucm_row : List Class
ucm_row = run is_blank ∷ Row counter_row ∷ optional label ∷ half_date ∷ run is_blank ∷ exactly colon ∷ run is_blank
    ∷ Row message_row ∷ []

abbrev pub ucm_sent : Values ucm_row → SentValue
ucm_sent (_, (_, (host, (date, (_, (_, (_, ((tag, (_, (_, (_, (msg, _))))), _)))))))) =
    loose (Some date) host (Some tag) None msg

abbrev pub ucm_form : Form
ucm_form = record { dialect = CiscoIos; row = ucm_row; Means = λ v sent. sent ≡ ucm_sent v }
