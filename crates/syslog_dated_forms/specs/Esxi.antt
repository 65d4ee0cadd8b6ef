-- Lines of VMware ESXi from 8.0 on (its files in /var/log, and what a forwarder sends of them): a timestamp, the
-- level with the priority in brackets, and the program. 40 is `(`, 41 `)`.
use Rattle.std.specs.Prelude.{◌≡◌, ◌||◌, Bool, IsTrue, List, [], ◌∷◌, Some, None, codes}
use Rattle.std.specs.Char.{is_ascii_digit}
use Rattle.syslog_text.specs.Pieces.Class.{Text, Class, Values, Row, run, some_run, exactly, rest, texted}
use Rattle.syslog_text.specs.Pieces.Rules.{such_that}
use Rattle.syslog_text.specs.Pieces.View.{text_eq}
use Rattle.syslog_text.specs.Text.{is_blank}
use Rattle.syslog_sent.specs.Date.{iso_date}
use Rattle.syslog_sent.specs.Named.{program}
use Rattle.syslog_sent.specs.Runs.{is_plain_char}
use Rattle.syslog_sent.specs.Sent.{Form, SentValue, loose}
use Rattle.syslog_sent.specs.declared.dialect.Dialect.TheVariants.{Esxi}

-- the severities, from `Em` for emergency to `Db` for debug
abbrev pub is_grave : Text → Bool
is_grave t = text_eq t (codes "Em") || (text_eq t (codes "Al") || (text_eq t (codes "Cr") || text_eq t (codes "Er")))

abbrev pub is_mild : Text → Bool
is_mild t = text_eq t (codes "Wa") || (text_eq t (codes "No") || (text_eq t (codes "In") || text_eq t (codes "Db")))

abbrev pub is_level : Text → Bool
is_level t = is_grave t || is_mild t

abbrev pub level : Class
level = such_that (texted (some_run is_plain_char)) (λ t. IsTrue (is_level t))

-- `In(182)`
abbrev pub mark_row : List Class
mark_row = level ∷ exactly (40 ∷ []) ∷ some_run is_ascii_digit ∷ exactly (41 ∷ []) ∷ []

abbrev pub esxi_row : List Class
esxi_row = run is_blank ∷ iso_date ∷ some_run is_blank ∷ Row mark_row ∷ some_run is_blank ∷ program ∷ run
    is_blank ∷ rest ∷ []

abbrev pub esxi_sent : Values esxi_row → SentValue
esxi_sent (_, (date, (_, (_, (_, (p, (_, (msg, _)))))))) = loose (Some date) None (Some p.name) p.process msg

abbrev pub esxi_form : Form
esxi_form = record { dialect = Esxi; row = esxi_row; Means = λ v sent. sent ≡ esxi_sent v }
