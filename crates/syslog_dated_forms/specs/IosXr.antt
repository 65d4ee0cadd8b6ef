-- Lines of Cisco's IOS-XR: a counter and the host, where it is so configured, the node, the date, the process, and the
-- message with its code. ("System Monitoring", the format of system log messages.) 91 is `[`, 93 `]`.
use Rattle.std.specs.Prelude.{◌≡◌, ◌⊎◌, ◌||◌, ℕ, nat_eq, Bool, List, [], ◌∷◌, Option, Some, codes}
use Rattle.std.specs.Char.{is_ascii_digit}
use Rattle.syslog_text.specs.Pieces.Class.{Text, Class, Values, Row, run, some_run, exactly, rest, optional, mapped}
use Rattle.syslog_text.specs.Pieces.Class.{texted}
use Rattle.syslog_text.specs.Pieces.Rules.{such_that}
use Rattle.syslog_text.specs.Text.{is_blank, colon}
use Rattle.syslog_text.specs.Text.CharClass.{is_label_char}
use Rattle.syslog_dated_forms.specs.Cisco.{Starts, counter_row, date_row, dated_in, origin}
use Rattle.syslog_sent.specs.Sent.{Form, SentValue, loose}
use Rattle.syslog_sent.specs.Zone.{bare_word}
use Rattle.syslog_sent.specs.declared.dialect.Dialect.TheVariants.{CiscoIosXr}

-- `RP/0/RSP0/CPU0`: the card that the message is from
abbrev pub IsNode : Text → Type 0
IsNode t = Starts (codes "RP/") t ⊎ (Starts (codes "LC/") t ⊎ Starts (codes "0/") t)

-- `R`, `L` or `0`
abbrev pub begins_node : ℕ → Bool
begins_node c = nat_eq c 82 || (nat_eq c 76 || nat_eq c 48)

abbrev pub node : Class
node = such_that bare_word IsNode

abbrev pub host_row : List Class
host_row = origin ∷ some_run is_blank ∷ []

abbrev pub host : Class
host = mapped (Row host_row) Text (λ v. v.0)

-- before the date
abbrev pub card_row : List Class
card_row = run is_blank ∷ optional (Row counter_row) ∷ optional host ∷ node ∷ exactly colon ∷ []

abbrev pub host_in : Values card_row → Option Text
host_in (_, (_, (host, _))) = host

-- the host, where it is shown
abbrev pub card : Class
card = mapped (Row card_row) (Option Text) host_in

-- `name[process]:` and the message
abbrev pub process_row : List Class
process_row =
    run is_blank ∷ optional (exactly colon) ∷ run is_blank ∷ texted (some_run is_label_char) ∷ exactly (91 ∷ [])
    ∷ texted (some_run is_ascii_digit) ∷ exactly (93 ∷ []) ∷ exactly colon ∷ run is_blank ∷ rest ∷ []

abbrev pub process_in : Values process_row → Text × (Text × Text)
process_in (_, (_, (_, (app, (_, (id, (_, (_, (_, (msg, _)))))))))) = (app, (id, msg))

abbrev pub process : Class
process = mapped (Row process_row) (Text × (Text × Text)) process_in

abbrev pub xr_row : List Class
xr_row = card ∷ Row date_row ∷ process ∷ []

abbrev pub xr_sent : Values xr_row → SentValue
xr_sent (host, ((y, (date, _)), ((app, (id, msg)), _))) = loose (Some (dated_in y date)) host (Some app) (Some id) msg

abbrev pub xr_form : Form
xr_form = record { dialect = CiscoIosXr; row = xr_row; Means = λ v sent. sent ≡ xr_sent v }
