-- Lines of Sophos UTM: `2026:03:02-06:33:04 utm9 ulogd[4567]: text`. 45 is `-`, 58 `:`.
use Rattle.std.specs.Prelude.{◌≡◌, List, [], ◌∷◌, Some, None}
use Rattle.syslog_text.specs.Pieces.Class.{Class, Values, Row, run, mapped, after}
use Rattle.syslog_text.specs.Text.{is_blank}
use Rattle.syslog_pieces.specs.Timestamp.Rfc3339.{pair, year}
use Rattle.syslog_dated_forms.specs.Dated.{dated_sent}
use Rattle.syslog_sent.specs.Sent.{Form}
use Rattle.syslog_dated_forms.specs.Tail.{wide_tail}
use Rattle.syslog_sent.specs.declared.dialect.Dialect.TheVariants.{SophosUtm}
use Rattle.syslog_sent.specs.declared.sent.SentDate.{SentDate}

-- year, month and day with colons, a hyphen, and the clock
abbrev pub colon_row : List Class
colon_row =
    year ∷ after 58 (pair 100) ∷ after 58 (pair 100) ∷ after 45 (pair 100) ∷ after 58 (pair 100) ∷ after 58
    (pair 100) ∷ []

abbrev pub colon_of : Values colon_row → SentDate
colon_of (y, (m, (d, (h, (mi, (s, _)))))) = record {
  date = record { year = Some y; month = m; day = d; hour = h; minute = mi; second = s };
  nanosecond = 0;
  offset = None;
}

abbrev pub colon_date : Class
colon_date = mapped (Row colon_row) SentDate colon_of

abbrev pub utm_row : List Class
utm_row = run is_blank ∷ colon_date ∷ wide_tail ∷ []

abbrev pub utm_form : Form
utm_form = record { dialect = SophosUtm; row = utm_row; Means = λ v sent. sent ≡ dated_sent v.1.0 v.1.1.0 }
