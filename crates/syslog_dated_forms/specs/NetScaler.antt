-- Lines of Citrix NetScaler: `03/02/2026:06:33:04 GMT ns1 0-PPE-0 : text`, or `2026/03/02:06:33:04 GMT ..`, and `.. GMT
-- 0-PPE-0 : text` with two spaces, where it has no name. 32 is a space, 47 `/`, 58 `:`.
use Rattle.std.proofs.Common.{inl, inr}
use Rattle.std.specs.Prelude.{◌≡◌, ◌⊎◌, ℕ, List, [], ◌∷◌, None, Some}
use Rattle.std.specs.Option.{option_flatten}
use Rattle.syslog_text.specs.Pieces.Class.{Class, Values, Row, run, some_run, exactly, optional, mapped, after, rest}
use Rattle.syslog_text.specs.Pieces.Class.{texted}
use Rattle.syslog_text.specs.Text.{colon, is_blank}
use Rattle.syslog_text.specs.Text.CharClass.{is_label_char}
use Rattle.syslog_pieces.specs.Timestamp.Rfc3339.{pair, year}
use Rattle.syslog_dated_forms.specs.Dated.{dated_sent}
use Rattle.syslog_sent.specs.Named.{◌otherwise◌}
use Rattle.syslog_sent.specs.Sent.{Form, SentValue, loose}
use Rattle.syslog_dated_forms.specs.Tail.{wide_tail}
use Rattle.syslog_sent.specs.Zone.{zone}
use Rattle.syslog_sent.specs.declared.dialect.Dialect.TheVariants.{NetScaler}
use Rattle.syslog_sent.specs.declared.sent.SentDate.{SentDate}

-- month, day and year with slashes
abbrev pub month_first_row : List Class
month_first_row = pair 100 ∷ after 47 (pair 100) ∷ after 47 year ∷ []

-- year, month and day
abbrev pub year_first_row : List Class
year_first_row = year ∷ after 47 (pair 100) ∷ after 47 (pair 100) ∷ []

abbrev pub day_of : Values month_first_row ⊎ Values year_first_row → ℕ × (ℕ × ℕ)
day_of (inl (m, (d, (y, _)))) = (y, (m, d))
day_of (inr (y, (m, (d, _)))) = (y, (m, d))

-- the day, as year, month and day
abbrev pub slashed_day : Class
slashed_day = mapped (Row month_first_row otherwise Row year_first_row) (ℕ × (ℕ × ℕ)) day_of

-- the day, a colon, and the clock
abbrev pub slashed_row : List Class
slashed_row = slashed_day ∷ after 58 (pair 100) ∷ after 58 (pair 100) ∷ after 58 (pair 100) ∷ optional zone ∷ []

abbrev pub slashed_of : Values slashed_row → SentDate
slashed_of ((y, (m, d)), (h, (mi, (s, (z, _))))) = record {
  date = record { year = Some y; month = m; day = d; hour = h; minute = mi; second = s };
  nanosecond = 0;
  offset = option_flatten z;
}

abbrev pub slashed_date : Class
slashed_date = mapped (Row slashed_row) SentDate slashed_of

abbrev pub netscaler_row : List Class
netscaler_row = run is_blank ∷ slashed_date ∷ wide_tail ∷ []

abbrev pub netscaler_form : Form
netscaler_form =
    record { dialect = NetScaler; row = netscaler_row; Means = λ v sent. sent ≡ dated_sent v.1.0 v.1.1.0 }

-- two spaces, where the host would be between them, and the packet engine as the program
abbrev pub unnamed_row : List Class
unnamed_row = run is_blank ∷ slashed_date ∷ exactly (32 ∷ 32 ∷ []) ∷ texted (some_run is_label_char) ∷ some_run is_blank
    ∷ exactly colon ∷ run is_blank ∷ rest ∷ []

abbrev pub unnamed_sent : Values unnamed_row → SentValue
unnamed_sent (_, (date, (_, (engine, (_, (_, (_, (msg, _)))))))) = loose (Some date) None (Some engine) None msg

abbrev pub unnamed_form : Form
unnamed_form = record { dialect = NetScaler; row = unnamed_row; Means = λ v sent. sent ≡ unnamed_sent v }
