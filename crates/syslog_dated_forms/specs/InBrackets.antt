-- Lines whose date is in brackets: `[Mon Mar  2 06:33:04 2026] text`. 91 is `[`, 93 `]`.
use Rattle.std.specs.Prelude.{◌≡◌, ℕ, Bool, List, [], ◌∷◌, None, Some, nat_eq, not}
use Rattle.syslog_text.specs.Pieces.Class.{Class, Division, Row, Values, exactly, mapped, optional, rest, run, some_run}
use Rattle.syslog_text.specs.Text.{is_blank}
use Rattle.syslog_sent.specs.Date.{any_date, weekday}
use Rattle.syslog_sent.specs.Sent.{Form, SentValue, loose}
use Rattle.syslog_sent.specs.declared.dialect.Dialect.TheVariants.{Bracketed}
use Rattle.syslog_sent.specs.declared.sent.SentDate.{SentDate}

-- no bracket that closes
abbrev pub is_open : ℕ → Bool
is_open c = not (nat_eq c 93)

abbrev pub day_row : List Class
day_row = weekday ∷ some_run is_blank ∷ []

-- a date, perhaps after the day of the week
abbrev pub stamp_row : List Class
stamp_row = optional (Row day_row) ∷ any_date ∷ []

-- all up to the bracket that closes, which is one by itself
abbrev pub stamp : Class
stamp = record { Value = Values stamp_row; Is = λ p q v. (run is_open).Is p q tt × Division stamp_row p v }

abbrev pub stamp_date : Class
stamp_date = mapped stamp SentDate (λ v. v.1.0)

abbrev pub in_brackets_row : List Class
in_brackets_row = run is_blank ∷ exactly (91 ∷ []) ∷ stamp ∷ exactly (93 ∷ []) ∷ run is_blank ∷ rest ∷ []

abbrev pub in_brackets_sent : Values in_brackets_row → SentValue
in_brackets_sent (_, (_, ((_, (date, _)), (_, (_, (msg, _)))))) = loose (Some date) None None None msg

abbrev pub in_brackets_form : Form
in_brackets_form =
    record { dialect = Bracketed; row = in_brackets_row; Means = λ v sent. sent ≡ in_brackets_sent v }
